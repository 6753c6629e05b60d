-- The new deemed energies of a resource. Assumes nothing.
use Rattle.std.proofs.Common.{◌≡◌, ◌<◌, ◌≤◌, ℕ, if◌then◌else◌, false, List, [], ◌∷◌, ◌++◌, map, length, get_or, ℤ, pos, sum, unsigned_abs, refl, ap, ◌∙◌, arith}
use Rattle.std.specs.List.{All, zip}
use Rattle.std.proofs.lemmas.List.{length-map, length-replicate}
use Rattle.std.proofs.lemmas.List.Elements.{All-head, All-tail, All-map, All-replicate, All-weaker, All-from_get_or}
use Rattle.std.proofs.lemmas.Slice.Zip.{length-zip, get_or-zip}
use Rattle.sharing.specs.Laws.{Apportioned, Lawful, total}
use Rattle.sharing.proofs.Totals.{total_within}
use Rattle.sharing.proofs.Parts.{shares_within}
use Rattle.deemed.specs.declared.quantities.Units.{Units}
use Rattle.deemed.specs.declared.tag.Tag.{Tag}
use Rattle.deemed.specs.Ranges.{hour_length, most_kw}
use Rattle.deemed.specs.Tags.{pool, weight, weights}
use Rattle.deemed.specs.Pools.{NearPart}
use Rattle.deemed.proofs.Limits.{within_limits}
use Rattle.rows.specs.declared.figures.DeemedEnergy.{DeemedEnergy}
use Rattle.rows.specs.declared.kinds.ResourceKind.{ResourceKind}
use Rattle.rows.specs.declared.kinds.ResourceKind.TheVariants.{Plain, StaticTie, DynamicTie}
use Rattle.rows.specs.declared.resource.Resource.{Resource}
use Rattle.rows.specs.Ranges.{most_deemed}
use Rattle.rows.proofs.FigureLaws.{units_of_deemed, deemed_in_range}
use Rattle.rows.specs.Posted.{with_table}
use Rattle.rows.specs.Kinds.{is_tie}
use Rattle.rows.specs.Rows.{IsWholeResource, nothing_deemed}
use Rattle.rows.proofs.Undeemed.{nothing_deemed_is}
use Rattle.records.specs.Sound.{IsUndeemed}
use Rattle.charges.specs.Energies.{energies_by_kind, figure_of, new_energies, with_new_energies, counts, EnergyLaws}
use Rattle.charges.specs.Faults.{tie_fault}
use Rattle.charges.proofs.Shareable.{shareable}

abbrev InRange : ℤ → Type 0
InRange z = unsigned_abs z ≤ most_deemed

-- what tags schedule
scheduled_within : (ts : List Tag) → All (λ z. unsigned_abs z ≤ most_kw) (map (λ t. t.kw.0) ts)
scheduled_within ts = All-map (λ z. unsigned_abs z ≤ most_kw) (λ t. t.kw.0) ts (λ i t h. (get_or ts i t).scheduled)

-- numbers in range are those of their figures
count_is : (z : ℤ) → InRange z → (figure_of z).units.0 ≡ z
count_is z within = let units : Units = record { 0 = z } in ap (λ u. u.0) (units_of_deemed units (deemed_in_range units within))

counts_of : (zs : List ℤ) → All InRange zs → counts (map figure_of zs) ≡ zs
counts_of [] each = refl
counts_of (z ∷ zs) each = rw (count_is z (All-head InRange z zs each)) (ap (λ l. z ∷ l) (counts_of zs (All-tail InRange z zs each)))

-- each share is near its part
near_each : (p : ℤ) (ws : List ℕ) (zs : List ℤ) → Apportioned p ws zs → All (λ x. NearPart p (sum ws) x.0 x.1) (zip ws zs)
near_each p ws zs laws =
    All-from_get_or (λ x. NearPart p (sum ws) x.0 x.1) (zip ws zs) (0, pos 0)
    (λ i h.
    let one_each = laws.one_each in
    let in' : i < length ws = omega (arith, length-zip ws zs) in
    rw (get_or-zip ws zs i (0, pos 0) in' (omega arith))
    (record { near = λ some. laws.near i some in'; none = λ none. laws.no_weight i none in' }))

-- resources with the energies at the front of a table
pub tables_with : (shares : ℤ → List ℕ → List ℤ) (resources : List Resource) (table more : List (List DeemedEnergy)) → table ≡ map (new_energies shares) resources ++ more
    → with_table table resources ≡ map (with_new_energies shares) resources
tables_with shares [] table more is = refl
tables_with shares (r ∷ rs) table more is = rw is (ap (λ l. with_new_energies shares r ∷ l) (tables_with shares rs _ more refl))

-- a resource has its new energies: a plain one has none, before and after
pub renewed_deemed : (shares : ℤ → List ℕ → List ℤ) (r : Resource) → IsUndeemed r → (with_new_energies shares r).deemed ≡ new_energies shares r
unfolding new_energies
renewed_deemed shares r none = at r.kind none
  where
    at : (kind : ResourceKind) → (is_tie kind ≡ false → r.deemed ≡ nothing_deemed)
        → (if is_tie kind then map figure_of (energies_by_kind shares kind r) else r.deemed) ≡ map figure_of (energies_by_kind shares kind r)
    at Plain none = none refl ∙ nothing_deemed_is
    at StaticTie none = refl
    at DynamicTie none = refl

module _ {shares : ℤ → List ℕ → List ℤ} (lawful : Lawful shares) where
  within_by_kind : (kind : ResourceKind) (r : Resource) → length r.tags ≡ hour_length → All InRange (energies_by_kind shares kind r)
  within_by_kind Plain r long = All-replicate InRange hour_length (pos 0) (omega arith)
  within_by_kind StaticTie r long = All-weaker (λ z. unsigned_abs z ≤ most_kw) InRange (λ z le. omega arith) (map (λ t. t.kw.0) r.tags) (scheduled_within r.tags)
  within_by_kind DynamicTie r long =
      let p : ℤ = pool r.tags in
      let ws : List ℕ = weights r.tags in
      let size : unsigned_abs p ≤ most_deemed = omega (arith, length-map r.tags (λ t. t.kw.0), total_within most_kw (map (λ t. t.kw.0) r.tags) (scheduled_within r.tags)) in
      All-weaker (λ z. unsigned_abs z ≤ unsigned_abs p) InRange (λ z le. omega arith) (shares p ws) (shares_within p ws (shares p ws) (lawful p ws (within_limits r.tags long)))

  pub energies_within : (r : Resource) → length r.tags ≡ hour_length → All (λ z. unsigned_abs z ≤ most_deemed) (energies_by_kind shares r.kind r)
  energies_within r long = within_by_kind r.kind r long

  pub counts_are : (r : Resource) → length r.tags ≡ hour_length → counts (new_energies shares r) ≡ energies_by_kind shares r.kind r
  unfolding new_energies
  counts_are r long = counts_of (energies_by_kind shares r.kind r) (energies_within r long)

  pub energy_laws : (r : Resource) → IsWholeResource r → (tie_fault r).fits ≡ false → EnergyLaws r (new_energies shares r)
  energy_laws r whole fits =
      let p : ℤ = pool r.tags in
      let ws : List ℕ = weights r.tags in
      let are : (kind : ResourceKind) → r.kind ≡ kind → counts (new_energies shares r) ≡ energies_by_kind shares kind r =
      λ kind is. counts_are r whole.1 ∙ ap (λ k. energies_by_kind shares k r) is in
      let laws : Apportioned p ws (shares p ws) = lawful p ws (within_limits r.tags whole.1) in
      record {
        of_plain = are Plain;
        of_static = are StaticTie;
        static_in_full = λ is. ap total (are StaticTie is);
        in_full = λ is. ap total (are DynamicTie is) ∙ laws.in_full (shareable p ws (rw is at fits));
        near = λ is. rw (are DynamicTie is) (near_each p ws (shares p ws) laws);
      }

  -- there is one for each interval
  long_by_kind : (kind : ResourceKind) (r : Resource) → length r.tags ≡ hour_length → length (energies_by_kind shares kind r) ≡ hour_length
  long_by_kind Plain r long = length-replicate hour_length (pos 0)
  long_by_kind StaticTie r long = length-map r.tags (λ t. t.kw.0) ∙ long
  long_by_kind DynamicTie r long = (lawful (pool r.tags) (weights r.tags) (within_limits r.tags long)).one_each ∙ length-map r.tags weight ∙ long

  pub energies_long : (r : Resource) → IsWholeResource r → length (new_energies shares r) ≡ hour_length
  unfolding new_energies
  energies_long r whole = length-map (energies_by_kind shares r.kind r) figure_of ∙ long_by_kind r.kind r whole.1
