use Rattle.std.proofs.Common.{◌≡◌, ◌<◌, ◌+◌, ◌==◌, ℕ, Bool, cond, min, List, [], ◌∷◌, ◌++◌, map, length, take, get_or, ℤ, pos, ◌+ℤ◌, refl, sym, ap, ◌∙◌, arith}
use Rattle.std.specs.List.{filter, zip}
use Rattle.std.proofs.lemmas.Bool.{eq-eqb, ne_eqb}
use Rattle.std.proofs.lemmas.Int.{ints}
use Rattle.std.proofs.lemmas.List.{length-map, length_push, get_or-map, get_or_default, take_all}
use Rattle.std.proofs.lemmas.Slice.Zip.{zip_turn, zip_end, length-zip, get_or-zip}
use Rattle.sharing.specs.Laws.{total}
use Rattle.rows.specs.declared.figures.DeemedEnergy.{DeemedEnergy}
use Rattle.rows.specs.declared.resource.Resource.{Resource}
use Rattle.rows.specs.Figures.{as_deemed, no_units}
use Rattle.formulas.specs.Imbalance.{imbalance_charge}
use Rattle.formulas.proofs.Charges.{same_charge}
use Rattle.rows.specs.Posted.{deemed_at, with_energies, with_table}
use Rattle.charges.specs.Amounts.{resource_charge, amount_6470}
use Rattle.charges.proofs.Adding.{total_more_of}
use Rattle.charges.proofs.imbalance.party_imbalance.Goals as goal

-- what a resource is charged with other energies
charged_with : (index : ℕ) (r : Resource) (energies : List DeemedEnergy) (e : DeemedEnergy) → e ≡ get_or energies index (as_deemed no_units)
    → imbalance_charge index e.units.0 r ≡ resource_charge index (with_energies energies r)
charged_with index r energies e is =
    same_charge index e.units.0 (deemed_at index (with_energies energies r)).units.0 r (with_energies energies r) refl refl (λ tie. rw tie (ap (λ d. d.units.0) is))

module _ (table : List (List DeemedEnergy)) (resources : List Resource) where
  length-with_table : length (with_table table resources) ≡ min (length resources) (length table)
  length-with_table = length-map (zip resources table) (λ x. with_energies x.1 x.0) ∙ length-zip resources table

  -- the row at n
  module _ (n : ℕ) (r : Resource) (energies : List DeemedEnergy) (h : n < length resources) (k : n < length table) (is : r ≡ get_or resources n r) (at : energies ≡ get_or table n energies) where
    row : get_or (with_table table resources) n (with_energies energies r) ≡ with_energies energies r
    row =
        get_or-map (λ x. with_energies x.1 x.0) (zip resources table) n (r, energies) (with_energies energies r) (omega (arith, length-zip resources table))
        ∙ ap (λ x. with_energies x.1 x.0) (get_or-zip resources table n (r, energies) h k)
        ∙ ap (λ e. with_energies e (get_or resources n r)) (sym at) ∙ ap (with_energies energies) (sym is)

    -- the charges of the first rows that pass a test, with this one
    charges_with : (index : ℕ) (p : Resource → Bool)
        → total (map (resource_charge index) (filter p (take (n + 1) (with_table table resources))))
        ≡ total (map (resource_charge index) (filter p (take n (with_table table resources)))) +ℤ cond (p (with_energies energies r)) (resource_charge index (with_energies energies r)) (pos 0)
    charges_with index p =
        let all : List Resource = with_table table resources in
        let before : ℤ = total (map (resource_charge index) (filter p (take n all))) in
        total_more_of (resource_charge index) p all n (with_energies energies r) (omega (arith, length-with_table))
        ∙ ap (λ x. before +ℤ cond (p x) (resource_charge index x) (pos 0)) row

pub loop-resource-preserved-then-resource-party : goal.loop-resource-preserved-then-resource-party
loop-resource-preserved-then-resource-party c =
    let index : ℕ = c.args.interval.index in
    let owner : ℕ = c.args.party.now.id in
    let r : Resource = c.in-Some.resource.now in
    let energies : List DeemedEnergy = c.in-Some.energies.now in
    let n : ℕ = length c.loop-resource.yielded in
    let t = zip_turn c.args.resources.now c.args.table.now c.loop-resource.yielded c.into_iter-resource-iterator.result c.loop-resource.resource-iterator c.next.new.self c.next.result (cc) (cc) c.loop-resource.yielded_by _ c.in-Some.is c.next.ensures.steps in
    let long : length (c.loop-resource.yielded ++ (c.in-Some.resource, c.in-Some.energies) ∷ []) ≡ n + 1 = length_push c.loop-resource.yielded _ in
    let more = charges_with c.args.table.now c.args.resources.now n r energies t.0 t.1 (t.2 r) (t.3 energies) index (λ r. r.owner == owner) in
    let own = rw (eq-eqb r.owner owner c.if-resource-party.true) at more in
    let cents : c.imbalance_charge.result.0 ≡ resource_charge index (with_energies energies r) =
    c.imbalance_charge.ensures.value ∙ charged_with index r energies _ (get_or_default energies index _ _ (omega arith)) in
    record {
      value = rw long (omega (arith, ints, own, cents));
      within = omega (arith, ints, long);
    }

pub loop-resource-preserved : goal.loop-resource-preserved
loop-resource-preserved c =
    let index : ℕ = c.args.interval.index in
    let owner : ℕ = c.args.party.now.id in
    let r : Resource = c.in-Some.resource.now in
    let energies : List DeemedEnergy = c.in-Some.energies.now in
    let n : ℕ = length c.loop-resource.yielded in
    let t = zip_turn c.args.resources.now c.args.table.now c.loop-resource.yielded c.into_iter-resource-iterator.result c.loop-resource.resource-iterator c.next.new.self c.next.result (cc) (cc) c.loop-resource.yielded_by _ c.in-Some.is c.next.ensures.steps in
    let long : length (c.loop-resource.yielded ++ (c.in-Some.resource, c.in-Some.energies) ∷ []) ≡ n + 1 = length_push c.loop-resource.yielded _ in
    let more = charges_with c.args.table.now c.args.resources.now n r energies t.0 t.1 (t.2 r) (t.3 energies) index (λ r. r.owner == owner) in
    let none = rw (ne_eqb r.owner owner c.if-resource-party.false) at more in
    record {
      value = rw long (omega (arith, ints, none));
      within = omega (arith, ints, long);
    }

pub returns-clause-value : goal.returns-clause-value
unfolding amount_6470
returns-clause-value c =
    let n : ℕ = length c.loop-resource.yielded in
    let all : List Resource = with_table c.args.table.now c.args.resources.now in
    let done = zip_end c.args.resources.now c.args.table.now c.loop-resource.yielded c.into_iter-resource-iterator.result c.loop-resource.resource-iterator c.next.new.self c.next.result (cc) (cc) c.loop-resource.yielded_by c.in-None.is c.next.ensures.steps in
    let whole : take n all ≡ all = take_all n all (omega (arith, length-with_table c.args.table.now c.args.resources.now)) in
    rw whole at c.loop-resource.invariant.value
