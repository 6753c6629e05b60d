-- Records with new deemed energies. Assumes nothing.
use Rattle.std.proofs.Common.{◌≡◌, ℕ, ◌≤◌, List, [], ◌++◌, map, length, get_or, ℤ, sym, ap, subst, ◌∙◌, append-nil, arith}
use Rattle.std.specs.List.{All}
use Rattle.std.proofs.lemmas.List.{length-map}
use Rattle.std.proofs.lemmas.List.Elements.{All-map}
use Rattle.sharing.specs.Laws.{Lawful}
use Rattle.deemed.specs.Ranges.{hour_length}
use Rattle.rows.specs.declared.figures.DeemedEnergy.{DeemedEnergy}
use Rattle.rows.specs.declared.resource.Resource.{Resource}
use Rattle.records.specs.View.{Hour}
use Rattle.records.specs.Hours.{with_deemed}
use Rattle.records.specs.Sound.{Sound}
use Rattle.records.proofs.Deemed.{sound_deemed}
use Rattle.charges.specs.declared.amounts.HourAmounts.{HourAmounts}
use Rattle.charges.specs.Energies.{new_energies, with_new_energies}
use Rattle.charges.specs.Charged.{HourCharged, renewed}
use Rattle.charges.proofs.Energies.{tables_with, energies_long, renewed_deemed}
use Rattle.statement.specs.Statements.{with_renewed}

-- a table that begins with them gives them
pub table_renewed : (shares : ℤ → List ℕ → List ℤ) (h : Hour) (table more : List (List DeemedEnergy)) → table ≡ map (new_energies shares) h.resources.rows ++ more
    → with_deemed table h ≡ with_renewed shares h
table_renewed shares h table more is =
    ap (λ rows. record h { resources = record h.resources { rows = rows } }) (tables_with shares h.resources.rows table more is)

-- they are as sound as before
pub sound_renewed : {shares : ℤ → List ℕ → List ℤ} → Lawful shares → (h : Hour) → Sound h → Sound (with_renewed shares h)
sound_renewed {shares} lawful h sound =
    let rows : List Resource = h.resources.rows in
    let table : List (List DeemedEnergy) = map (new_energies shares) rows in
    let is : with_deemed table h ≡ with_renewed shares h = table_renewed shares h table [] (sym (append-nil table)) in
    let room : length rows ≤ length table = omega (arith, length-map rows (new_energies shares)) in
    let whole : All (λ r. length r.deemed ≡ hour_length) (renewed shares h) =
    All-map (λ r. length r.deemed ≡ hour_length) (with_new_energies shares) rows
    (λ i d k. ap length (renewed_deemed shares (get_or rows i d) (sound.undeemed i d k)) ∙ energies_long lawful (get_or rows i d) (sound.whole_resources i d k)) in
    subst Sound is (sound_deemed table h room (subst (λ g. All (λ r. length r.deemed ≡ hour_length) g.resources.rows) (sym is) whole) sound)

-- the table of amounts gives them
pub deemed_renewed : (shares : ℤ → List ℕ → List ℤ) (h : Hour) (a : HourAmounts) → HourCharged shares h a → with_deemed a.deemed h ≡ with_renewed shares h
deemed_renewed shares h a charged = table_renewed shares h a.deemed _ charged.energies
