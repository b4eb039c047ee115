use Rattle.std.proofs.Common.{◌≡◌, ◌+◌, ◌<◌, ℕ, length, get_or, refl, sym, ◌∙◌, arith, rules}
use Rattle.std.specs.Prelude.{Option, Some, None}
use lib.ListN.{set, get_or-replicate, length-set}
use Rattle.terms.specs.Terms.{first}
use Rattle.terms.proofs.FirstLaws.{first_start, first_end}
use Rattle.sheets.specs.Words.{items}
use Rattle.sheets.specs.Checks.{first_unlisted, target_of}
use Rattle.sheets.specs.Edges.{reaches}
use Rattle.sheets.proofs.EdgeLaws.{over_none, over_more, owner_on, refuses_edge, accepts_edges, earlier_on, earlier_more, known_target, found_target, no_target, next_edge}
use Rattle.sheets.proofs.edges.resolve_edges.Goals as goal
use Rattle.sheets.proofs.edges.resolve_edges.Goals.{in-Some, in_default+in-Some-look_up}

pub loop-k-init : goal.loop-k-init
loop-k-init c = record {
  so-far = first_start _ _;
  owner = first_start _ _;
  owners-are = over_none _ _;
  targets-are = over_none _ _;
  earlier = λ j e l q.
      let d : None ≡ Some e = sym (get_or-replicate {A = Option ℕ} 512 j None None l) ∙ q in
      absurd (cc);
  slots = search rules;
}

-- no item has the name of edge k
pub returns-in_default-look_up : goal.returns-in_default-look_up
returns-in_default-look_up c =
    let e : first_unlisted c.args.index.sheet.words.all.now c.args.index.sheet.names.now ≡ c.loop-k.k =
    no_target _ _ _ _ _ c.loop-k.invariant.targets-are c.loop-k.invariant.so-far _ c.requires.signed _ (rw c.items-n.ensures at c.name.ensures.0) (omega (arith, c.listed-k-end.ensures))
    (sym c.in_default-look_up.is ∙ c.look_up.ensures) in
    record {
      verdict = refuses_edge _ _ _ e (omega (arith, c.listed-k-end.ensures));
      owners = rw e c.loop-k.invariant.owners-are;
      targets = rw e c.loop-k.invariant.targets-are;
    }

-- what edge k has learnt, from an earlier edge or from the search
learnt : (c : goal.After-owner-o)
    → let ws = c.args.index.sheet.words.all.now in
    let bs = c.args.index.sheet.names.now in
    (c.match-last.targets ≡ set c.loop-k.targets c.loop-k.k (target_of ws bs c.loop-k.k))
    × (target_of ws bs c.loop-k.k < items ws)
    × ((j e : ℕ) → j < 512 → get_or c.match-last.known j None ≡ Some e → e < c.loop-k.k + 1)
    × (length c.match-last.known ≡ 512)
learnt c =
    elim c.match-last.branch [
      | in-Some w ↦
          let before : w.in-Some.e < c.loop-k.k = c.loop-k.invariant.earlier _ _ c.slot-j.ensures w.in-Some.is in
          let t = known_target _ _ _ _ _ c.loop-k.invariant.targets-are c.loop-k.invariant.so-far _ before (rw c.items-n.ensures at (w.one_name.ensures w.if-one_name.true)) in
          (w.targets-is ∙ rw t.0, t.1, rw w.known-is (earlier_on _ _ c.loop-k.invariant.earlier), rw w.known-is c.loop-k.invariant.slots)
      | in_default+in-Some-look_up w ↦
          let t = found_target _ _ _ _ _ c.loop-k.invariant.targets-are c.loop-k.invariant.so-far _ c.requires.signed _ (rw c.items-n.ensures at w.name.ensures.0) _ (sym w.in-Some-look_up.is ∙ w.look_up.ensures) in (
            w.targets-is ∙ rw t.0,
            t.1,
            rw w.known-is (earlier_more _ _ c.loop-k.invariant.earlier _ (omega (arith, c.slot-j.ensures, c.loop-k.invariant.slots))),
            rw (w.known-is, length-set) c.loop-k.invariant.slots,
          )
    ]

pub loop-k-preserved : goal.loop-k-preserved
loop-k-preserved c =
    let ws = c.args.index.sheet.words.all.now in
    let target = learnt c in
    let item : c.owner-o.result ≡ first (reaches ws c.loop-k.k) 0 (items ws) = c.owner-o.ensures ∙ sym c.loop-k.invariant.owner in
    let room = c.requires.room in
    record {
      so-far = next_edge _ _ _ _ _ c.loop-k.invariant.targets-are c.loop-k.invariant.so-far (omega (arith, c.listed-k-end.ensures)) target.1;
      owner = rw item (owner_on _ _ _);
      owners-are = rw c.loop-k.invariant.owners-are (over_more _ _ _ _ (omega (arith, room.0, c.listed-k-end.ensures)) item);
      targets-are = rw (target.0, c.loop-k.invariant.targets-are) (over_more _ _ _ _ (omega (arith, room.1, c.listed-k-end.ensures)) refl);
      earlier = target.2;
      slots = target.3;
    }

pub returns : goal.returns
returns c =
    let e : first_unlisted c.args.index.sheet.words.all.now c.args.index.sheet.names.now ≡ c.loop-k.k =
    c.loop-k.invariant.so-far ∙ first_end _ _ _ (omega (arith, c.listed-k-end.ensures)) in
    record {
      verdict = accepts_edges _ _ _ e (omega (arith, c.listed-k-end.ensures));
      owners = rw e c.loop-k.invariant.owners-are;
      targets = rw e c.loop-k.invariant.targets-are;
    }
