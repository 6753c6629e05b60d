use Rattle.std.proofs.Common.{◌≡◌, ◌++◌, ℕ, List, map, filter, length, slice_index, append-nil, sym, ap, ◌∙◌, arith}
use Rattle.std.proofs.lemmas.List.{get_or-map, length-map}
use Rattle.rows.specs.declared.party.Party.{Party}
use Rattle.records.specs.Hours.{party_id}
use Rattle.charges.specs.declared.amounts.IntervalAmounts.{IntervalAmounts}
use Rattle.statement.specs.declared.line.Line.{Line}
use Rattle.statement.specs.Lines.{is_billed, party_changes, parties_changes}
use Rattle.statement.proofs.Adding.{party_added, balance_added}
use Rattle.statement.proofs.changes.add_interval.Goals as goal

pub loop-place-init : goal.loop-place-init
unfolding parties_changes
loop-place-init c = record { lines = sym (append-nil c.args.lines.now.items); few = omega arith }

pub loop-place-preserved : goal.loop-place-preserved
loop-place-preserved c =
    let interval : ℕ = c.args.interval.index in
    let new : IntervalAmounts = c.args.amounts.now in
    let earlier : IntervalAmounts = c.args.totals.now in
    let parties : List Party = c.args.parties.now in
    let place : ℕ = c.loop-place.place in
    let party : Party = c.index-parties-place.result in
    let so_far : List Line = c.loop-place.lines.items in
    let id : party.id ≡ slice_index (map party_id parties) place = ap party_id c.index-parties-place.is ∙ sym (get_or-map party_id parties place party 0 c.loop-place-test.true) in
    record {
      lines =
          c.add_party.ensures.lines
          ∙ ap (λ id. so_far ++ filter is_billed (party_changes c.args.run interval new earlier place id)) id
          ∙ party_added c.args.run interval new earlier (map party_id parties) place c.args.lines.now.items so_far c.loop-place.invariant.lines;
      few = omega (arith, c.add_party.ensures.few);
    }

pub returns-clause-lines : goal.returns-clause-lines
returns-clause-lines c =
    let interval : ℕ = c.args.interval.index in
    let new : IntervalAmounts = c.args.amounts.now in
    let earlier : IntervalAmounts = c.args.totals.now in
    let ids : List ℕ = map party_id c.args.parties.now in
    let before : List Line = c.args.lines.now.items in
    let all : c.loop-place.place ≡ length ids = omega (arith, length-map c.args.parties.now party_id) in
    let so_far = rw all at c.loop-place.invariant.lines in
    c.add.ensures.lines ∙ balance_added c.args.run interval new earlier ids before c.loop-place.lines.items c.change.result c.change.ensures so_far
