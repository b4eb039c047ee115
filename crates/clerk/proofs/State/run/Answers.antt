use Rattle.std.proofs.Common.{sym, ◌∙◌, arith}
use Rattle.graph.proofs.OrderLaws.{next_new}
use Rattle.clerk.proofs.StateLaws.{next_is, next_none, ran_of, run_stop, run_full, run_more}
use Rattle.clerk.proofs.State.run.Goals as goal

pub returns-in_default : goal.returns-in_default
returns-in_default c =
    let so-far = c.loop-s.invariant in
    ran_of _ _ _ so-far.tracks so-far.at-most so-far.long
    (run_stop _ _ c.loop-s.s so-far.so-far (next_none _ _ so-far.tracks _ c.args.edges.few (sym c.in_default.is ∙ c.next.ensures)))

pub place-requires : goal.place-requires
place-requires c =
    let tracks = c.loop-s.invariant.tracks in
    let next = next_is _ _ tracks _ _ c.args.edges.few (sym c.in-Some.is ∙ c.next.ensures) in
    (tracks, omega (arith, c.args.edges.few), rw next.0 (next_new _ _ _ (rw (← next.0) next.1)))

pub loop-s-preserved : goal.loop-s-preserved
loop-s-preserved c =
    let so-far = c.loop-s.invariant in
    let next = next_is _ _ so-far.tracks _ _ c.args.edges.few (sym c.in-Some.is ∙ c.next.ensures) in
    record {
      tracks = c.place.ensures.tracks;
      at-most = omega (arith, c.place.ensures.more);
      so-far = run_more _ _ c.loop-s.s _ _ so-far.so-far c.loop-s-test.true next.0 next.1 c.place.ensures;
      long = c.place.ensures.long ∙ so-far.long;
    }

pub returns : goal.returns
returns c =
    let so-far = c.loop-s.invariant in
    ran_of _ _ _ so-far.tracks so-far.at-most so-far.long (run_full _ _ c.loop-s.s so-far.so-far c.loop-s-test.false)
