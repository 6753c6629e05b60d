use Rattle.std.proofs.Common.{◌<◌, ℕ, List, map, length, ap, ◌∙◌, arith}
use Rattle.std.proofs.lemmas.List.{get_or_default}
use Rattle.records.specs.Hours.{party_id}
use Rattle.charges.specs.declared.amounts.IntervalAmounts.{IntervalAmounts}
use Rattle.charges.specs.Amounts.{no_amounts}
use Rattle.statement.specs.Lines.{changes}
use Rattle.statement.specs.Small.{at}
use Rattle.statement.proofs.Adding.{interval_added}
use Rattle.statement.proofs.changes.changes.Goals as goal

pub loop-index-init : goal.loop-index-init
unfolding changes
loop-index-init c = record { lines = c.new-lines.ensures; few = omega (arith, ap length c.new-lines.ensures) }

pub loop-index-preserved : goal.loop-index-preserved
loop-index-preserved c =
    let index : ℕ = c.loop-index.index in
    let new : List IntervalAmounts = c.args.amounts.now in
    let earlier : List IntervalAmounts = c.args.totals.now in
    let inside : index < length new = omega arith in
    let inside_earlier : index < length earlier = omega arith in
    let is = get_or_default new index _ no_amounts inside in
    let is_earlier = get_or_default earlier index _ no_amounts inside_earlier in
    record {
      lines =
          c.add_interval.ensures.lines
          ∙ interval_added c.args.run (at new) (at earlier) (map party_id c.args.parties.now) index c.loop-index.lines.items _ _ is is_earlier c.loop-index.invariant.lines;
      few = omega (arith, c.add_interval.ensures.few);
    }
