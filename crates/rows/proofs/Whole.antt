-- A row as it is entered has a record for each quarter and each interval. Assumes nothing.
use Rattle.std.proofs.Common.{refl, ℕ, Bool}
use Rattle.rows.specs.declared.kinds.AreaKind.{AreaKind}
use Rattle.rows.specs.declared.kinds.ResourceKind.{ResourceKind}
use Rattle.rows.specs.Rows.{new_area, new_party, new_resource, no_tests, no_transfers, no_demand, nothing_given, no_energies, no_tags, nothing_deemed, IsWholeArea, IsWholeParty, IsWholeResource}

pub whole_area : (id : ℕ) (kind : AreaKind) → IsWholeArea (new_area id kind)
unfolding no_tests no_transfers
whole_area id kind = (refl, refl)

pub whole_party : (id area : ℕ) → IsWholeParty (new_party id area)
unfolding no_demand nothing_given
whole_party id area = (refl, refl, refl, refl)

pub whole_resource : (id owner : ℕ) (kind : ResourceKind) (net exempt : Bool) → IsWholeResource (new_resource id owner kind net exempt)
unfolding no_energies no_tags nothing_deemed
whole_resource id owner kind net exempt = (refl, refl, refl)
