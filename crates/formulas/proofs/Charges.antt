-- What a resource's charge depends on. Assumes nothing.
use Rattle.std.proofs.Common.{◌≡◌, ℕ, true, ℤ, refl, ap, ◌∙◌, ⊎_elim}
use Rattle.std.proofs.lemmas.Bool.{cases_Bool}
use Rattle.rows.specs.declared.resource.EnergyRecord.{EnergyRecord}
use Rattle.rows.specs.declared.resource.Resource.{Resource}
use Rattle.rows.specs.Kinds.{is_tie}
use Rattle.rows.specs.Posted.{energy_at}
use Rattle.formulas.specs.declared.imbalance.Terms.{Terms}
use Rattle.formulas.specs.Rounding.{to_cents}
use Rattle.formulas.specs.Imbalance.{terms_of, imbalance_products, imbalance_charge}

-- the deemed energy counts for a tie alone
deemed_of_ties : (t : Terms) (e : EnergyRecord) (d d' : ℤ) → (is_tie t.kind ≡ true → d ≡ d') → imbalance_products t e d ≡ imbalance_products t e d'
unfolding imbalance_products
deemed_of_ties t e d d' same =
    ⊎_elim (λ tie. ap (imbalance_products t e) (same tie)) (λ plain. rw plain refl) (cases_Bool (is_tie t.kind))

-- a charge depends on the terms of the resource and its energy record in the interval, and of a tie on the deemed energy given
pub same_charge : (index : ℕ) (d d' : ℤ) (r r' : Resource) → terms_of r ≡ terms_of r' → energy_at index r ≡ energy_at index r'
    → (is_tie r.kind ≡ true → d ≡ d') → imbalance_charge index d r ≡ imbalance_charge index d' r'
unfolding imbalance_charge
same_charge index d d' r r' terms energy same =
    ap to_cents (deemed_of_ties (terms_of r) (energy_at index r) d d' same ∙ (λ i. imbalance_products (terms i) (energy i) d'))
