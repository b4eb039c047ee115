-- Raw characters and what an element adds keep that the buffer holds the value's first bytes (`Poured`), and the element that ends them ends the value.
use Rattle.std.proofs.Common.{◌++◌, ◌-◌, length, take, drop, ◌+◌, arith}
use Rattle.chars.specs.Utf8.{on_by}
use Rattle.strings.proofs.PouringLaws.{Poured, poured_capped, poured_room, poured_copy, poured_fits, poured_put, poured_close, poured_fail}
use Rattle.strings.proofs.decoding.pour.Goals as goal
use Rattle.strings.proofs.decoding.pour.Goals.{After-copy_raw-run}

-- where the raw characters are copied
raw : (c : After-copy_raw-run)
    → let v = c.loop-more.value in
    let n = c.loop-more.n in
    Poured c.args.text.now c.args.offset c.args.start c.args.value.now (take n v ++ (c.copy_raw-run.new.buffer ++ drop (length v - n) (drop n v)))
    (on_by c.copy_raw-run.result c.loop-more.at) (n + c.copy_raw-run.result)
raw c = poured_copy _ _ _ _ c.requires _ _ _ c.loop-more.invariant _ _ c.copy_raw-run.ensures

pub copy_raw-run-requires : goal.copy_raw-run-requires
copy_raw-run-requires c = poured_room _ _ _ _ c.requires _ _ _ c.loop-more.invariant

pub overflow_cast-at : goal.overflow_cast-at
overflow_cast-at c = omega (arith, poured_capped _ _ _ _ c.requires _ _ _ (raw (goal.at.overflow_cast-at c).After-copy_raw-run))

pub overflow_add-at : goal.overflow_add-at
overflow_add-at c = omega (arith, poured_capped _ _ _ _ c.requires _ _ _ (raw (goal.at.overflow_add-at c).After-copy_raw-run))

pub overflow_add-n : goal.overflow_add-n
overflow_add-n c = let r = raw (goal.at.overflow_add-n c).After-copy_raw-run in omega (arith, r.fits, r.long)

pub returns-in-Ok-Close : goal.returns-in-Ok-Close
returns-in-Ok-Close c =
    let l = rw (c.in-Ok-Close.is, c.in-Ok-Close.field-0-is) at c.element_at.ensures in
    poured_close _ _ _ _ c.requires _ _ _ (raw (goal.at.returns-in-Ok-Close c).After-copy_raw-run) _ l

pub returns-in-Err : goal.returns-in-Err
returns-in-Err c =
    let l = rw c.in-Err.is at c.element_at.ensures in
    absurd (poured_fail _ _ _ _ c.requires _ _ _ (raw (goal.at.returns-in-Err c).After-copy_raw-run) _ l)

pub slice_bounds-put-start : goal.slice_bounds-put-start
slice_bounds-put-start c = let r = raw (goal.at.slice_bounds-put-start c).After-copy_raw-run in omega (arith, r.fits)

pub slice_bounds-put-count : goal.slice_bounds-put-count
slice_bounds-put-count c = let r = raw (goal.at.slice_bounds-put-count c).After-copy_raw-run in omega (arith, r.fits)

pub put-n-requires : goal.put-n-requires
put-n-requires c =
    let r = raw (goal.at.put-n-requires c).After-copy_raw-run in
    let l = rw (c.in-Ok-Adds.is, c.in-Ok-Adds.field-0-is) at c.element_at.ensures in
    (l.2, poured_fits _ _ _ _ c.requires _ _ _ r _ _ l)

pub overflow_add-n-in-Ok-Adds : goal.overflow_add-n-in-Ok-Adds
overflow_add-n-in-Ok-Adds c =
    let r = raw (goal.at.overflow_add-n-in-Ok-Adds c).After-copy_raw-run in
    let l = rw (c.in-Ok-Adds.is, c.in-Ok-Adds.field-0-is) at c.element_at.ensures in
    let m = poured_put _ _ _ _ c.requires _ _ _ r _ _ l _ _ c.put-n.ensures in
    omega (arith, m.fits, m.long)

pub loop-more-preserved : goal.loop-more-preserved
loop-more-preserved c =
    let r = raw (goal.at.loop-more-preserved c).After-copy_raw-run in
    let l = rw (c.in-Ok-Adds.is, c.in-Ok-Adds.field-0-is) at c.element_at.ensures in
    poured_put _ _ _ _ c.requires _ _ _ r _ _ l _ _ c.put-n.ensures
