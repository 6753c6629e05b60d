use Rattle.std.proofs.Common.{◌≤◌, length, arith, inl, inr}
use Rattle.std.proofs.lemmas.Int.{ints}
use Rattle.std.proofs.lemmas.Bool.Decides.{nat_tests}
use Rattle.words.proofs.Numerals.{nothing_read, few_digits, first_read, all_read, stopped}
use Rattle.words.proofs.numbers.natural.Goals as goal
use Rattle.words.proofs.numbers.natural.Goals.{in_default, in_default-2, in_default-3}

pub loop-rest-init : goal.loop-rest-init
loop-rest-init c = nothing_read c.args.text.now

pub overflow_mul-number : goal.overflow_mul-number
overflow_mul-number c =
    let few = few_digits _ _ _ c.if-text-gt-MOST_DIGITS.false c.loop-rest.invariant in
    omega (arith, ints, c.loop-rest.invariant.is)

pub overflow_add-number : goal.overflow_add-number
overflow_add-number c =
    let few = few_digits _ _ _ c.if-text-gt-MOST_DIGITS.false c.loop-rest.invariant in
    omega (arith, ints, c.loop-rest.invariant.is)

pub loop-rest-preserved : goal.loop-rest-preserved
loop-rest-preserved c =
    let so_far = c.loop-rest.invariant in
    let few = few_digits _ _ _ c.if-text-gt-MOST_DIGITS.false so_far in
    first_read _ _ _ _ c.in-48-to-57.len_at_least (omega arith) (omega arith) (omega (arith, ints, so_far.is)) so_far

pub returns : goal.returns
returns c =
    let so_far = c.loop-rest.invariant in
    let some : 1 ≤ length c.args.text.now = grind (arith, nat_tests) in
    rw (c.then_some.ensures, c.is_empty-2.ensures)
    (elim c.if-rest-lt1.branch [
      | in_default w ↦ all_read _ _ _ some c.if-text-gt-MOST_DIGITS.false w.in_default.len_below so_far
      | in_default-2 w ↦ stopped _ _ _ w.in_default.len_at_least (inl (omega arith)) so_far
      | in_default-3 w ↦ stopped _ _ _ w.in_default.len_at_least (inr (omega arith)) so_far
    ])
