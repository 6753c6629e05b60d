use Rattle.std.proofs.Common.{ℕ, List, length, drop, ap, ◌∙◌}
use Rattle.std.proofs.lemmas.Result.{err_from_is_err_and}
use Rattle.rows.specs.declared.resource.Resource.{Resource}
use Rattle.charges.specs.declared.amounts.IntervalAmounts.{IntervalAmounts}
use Rattle.rows.specs.Posted.{with_table}
use Rattle.charges.specs.Amounts.{no_amounts}
use Rattle.charges.proofs.Charging.{offset_refused, surcharges_met, charged}
use Rattle.charges.proofs.interval.charge_interval.Goals as goal

pub returns-in_err-share_offset : goal.returns-in_err-share_offset
returns-in_err-share_offset g c =
    let p = err_from_is_err_and c.from_residual.result c.from_residual.ensures.1 in
    let resources : List Resource = with_table c.args.table.now c.args.resources.now in
    let x : IntervalAmounts = record no_amounts { cc_6470 = c.imbalance_column-amounts.result; cc_6474 = c.given_column-amounts.result; cc_6475 = c.given_column-amounts-2.result; offset = c.offset_pool-amounts.result } in
    rw (p.1, p.2)
    (offset_refused c.args.areas.now c.args.parties.now resources c.args.interval.index x c.imbalance_column-amounts.ensures.value c.given_column-amounts.ensures.value c.given_column-amounts-2.ensures.value c.offset_pool-amounts.ensures.value
    c.in_err-share_offset.field-0.0 c.in_err-share_offset.ensures)

pub returns-in_err-share_surcharges : goal.returns-in_err-share_surcharges
returns-in_err-share_surcharges g c =
    let p = err_from_is_err_and c.from_residual-in_err-share_surcharges.result c.from_residual-in_err-share_surcharges.ensures.1 in
    let resources : List Resource = with_table c.args.table.now c.args.resources.now in
    let x : IntervalAmounts = record no_amounts { cc_6470 = c.imbalance_column-amounts.result; cc_6474 = c.given_column-amounts.result; cc_6475 = c.given_column-amounts-2.result; offset = c.offset_pool-amounts.result } in
    rw (p.1, p.2)
    (surcharges_met c.args.areas.now c.args.parties.now resources c.args.interval.index x c.imbalance_column-amounts.ensures.value c.given_column-amounts.ensures.value c.given_column-amounts-2.ensures.value c.offset_pool-amounts.ensures.value
    c.in_ok-share_offset.ensures.0 ∙ c.in_err-share_surcharges.ensures)

pub returns : goal.returns
returns g c =
    let resources : List Resource = with_table c.args.table.now c.args.resources.now in
    let x : IntervalAmounts = record {
      cc_6470 = c.imbalance_column-amounts.result;
      cc_6474 = c.given_column-amounts.result;
      cc_6475 = c.given_column-amounts-2.result;
      cc_6476 = c.share_surcharges.new.column;
      cc_6477 = c.share_offset.new.column;
      offset = c.offset_pool-amounts.result;
      balance = c.balance-amounts.result;
    } in
    let n : ℕ = length c.args.parties.now in
    let offset = c.in_ok-share_offset.ensures in
    let surcharges = c.in_ok-share_surcharges.ensures in (
      surcharges_met c.args.areas.now c.args.parties.now resources c.args.interval.index x c.imbalance_column-amounts.ensures.value c.given_column-amounts.ensures.value c.given_column-amounts-2.ensures.value c.offset_pool-amounts.ensures.value
          offset.0 ∙ surcharges.0,
      charged c.args.areas.now c.args.parties.now resources c.args.interval.index x c.imbalance_column-amounts.ensures.value c.given_column-amounts.ensures.value c.given_column-amounts-2.ensures.value c.offset_pool-amounts.ensures.value
          offset.1 (offset.2 ∙ ap (λ a. drop n a.cc_6477) c.none-amounts.ensures) (offset.3 ∙ ap (λ a. length a.cc_6477) c.none-amounts.ensures)
          surcharges.1 (surcharges.2 ∙ ap (λ a. drop n a.cc_6476) c.none-amounts.ensures) (surcharges.3 ∙ ap (λ a. length a.cc_6476) c.none-amounts.ensures) c.balance-amounts.ensures.value,
    )
