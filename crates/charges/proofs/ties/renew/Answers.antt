use Rattle.std.proofs.Common.{◌≤◌, map, get_or, unsigned_abs, refl, ap, ◌∙◌, arith}
use mathlib.Core.List.{map-map}
use Rattle.std.proofs.lemmas.List.Elements.{All-map}
use Rattle.deemed.proofs.SharedHour.{tags_long}
use Rattle.rows.specs.Ranges.{most_deemed}
use Rattle.rows.specs.Figures.{as_deemed}
use Rattle.charges.specs.Energies.{new_energies}
use Rattle.charges.proofs.Renewing.{units_within, renewed}
use Rattle.charges.proofs.ties.renew.Goals as goal

pub figures-requires : goal.figures-requires
figures-requires g c =
    let tags = c.args.resource.now.tags in
    rw c.static_units.ensures.each
    (All-map (λ u. unsigned_abs u.0 ≤ most_deemed) (λ t. record { 0 = t.kw.0 }) tags (λ i t h. let within = (get_or tags i t).scheduled in omega arith))

pub figures-requires-in-DynamicTie : goal.figures-requires-in-DynamicTie
figures-requires-in-DynamicTie g c =
    let tags = c.args.resource.now.tags in
    let weighed = c.new-hour.ensures.weighed ∙ c.weights.ensures.weights in
    let shared = c.in_ok-share-in-DynamicTie.ensures.of_tags tags weighed c.pool.ensures in
    rw c.units.ensures (units_within c.args.resource.now c.in-DynamicTie.is (g.met.R.SharingRule.lawful c.args.rule.now) (tags_long _ tags weighed) shared)

pub returns-in-Plain : goal.returns-in-Plain
unfolding new_energies
returns-in-Plain g c = rw (c.zero.ensures, c.in-Plain.is) (refl, refl)

pub returns-in-StaticTie : goal.returns-in-StaticTie
unfolding new_energies
returns-in-StaticTie g c =
    rw c.in-StaticTie.is (refl, c.figures.ensures ∙ ap (map as_deemed) c.static_units.ensures.each ∙ simp map-map)

pub returns-in_ok-share-in-DynamicTie : goal.returns-in_ok-share-in-DynamicTie
returns-in_ok-share-in-DynamicTie g c =
    let tags = c.args.resource.now.tags in
    let weighed = c.new-hour.ensures.weighed ∙ c.weights.ensures.weights in
    let shared = c.in_ok-share-in-DynamicTie.ensures.of_tags tags weighed c.pool.ensures in
    renewed c.args.resource.now c.in-DynamicTie.is c.args.energies.now c.figures-in-DynamicTie.result shared
    (c.figures-in-DynamicTie.ensures ∙ ap (map as_deemed) c.units.ensures)
