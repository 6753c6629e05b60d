use Rattle.std.proofs.Common.{◌≤◌, ℕ, unsigned_abs, ap, ◌∙◌, arith}
use Rattle.std.proofs.lemmas.List.Elements.{All-set}
use Rattle.rows.specs.declared.figures.Cents.{Cents}
use Rattle.rows.specs.declared.party.Party.{Party}
use Rattle.rows.specs.Ranges.{most_given}
use Rattle.charges.specs.Amounts.{given_cents, no_column}
use Rattle.charges.proofs.Filling.{filled_more, filled_all}
use Rattle.charges.proofs.given.given_column.Goals as goal

pub loop-i-preserved : goal.loop-i-preserved
loop-i-preserved c =
    let i : ℕ = c.loop-i.i in
    let Within : Cents → Type 0 = λ c. unsigned_abs c.0 ≤ most_given in
    let f : Party → Cents = λ p. record { 0 = given_cents c.args.code c.args.interval.index p } in
    record {
      value =
          filled_more f c.args.parties.now no_column c.loop-i.column i c.index-parties-i.result c.given.result.cents c.loop-i-test.true (omega arith)
          c.loop-i.invariant.value (ap (λ g. g.cents) c.given.ensures.at ∙ ap f c.index-parties-i.is);
      within = All-set Within c.loop-i.column i c.given.result.cents c.given.result.within c.loop-i.invariant.within;
    }

pub returns-clause-value : goal.returns-clause-value
returns-clause-value c = c.loop-i.invariant.value ∙ filled_all (given_cents c.args.code c.args.interval.index) c.args.parties.now c.loop-i.i (omega arith)
