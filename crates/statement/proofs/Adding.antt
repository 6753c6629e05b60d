-- The lines of a run are added one after another, and those that bill nothing are left out. Assumes nothing.
use Rattle.std.proofs.Common.{◌≡◌, ◌+◌, ◌<◌, ◌≤◌, ℕ, Bool, List, [], ◌∷◌, ◌++◌, map, filter, length, take, get_or, ◌-ℤ◌, slice_index, refl, sym, ap, ◌∙◌, append_assoc}
use Rattle.std.proofs.lemmas.List.{get_or-map, take_all}
use Rattle.std.proofs.lemmas.List.Elements.{filter-append, filter_more}
use Rattle.rows.specs.declared.figures.Cents.{Cents}
use Rattle.charges.specs.declared.amounts.IntervalAmounts.{IntervalAmounts}
use Rattle.charges.specs.declared.code.ChargeCode.{ChargeCode}
use Rattle.charges.specs.declared.code.ChargeCode.TheVariants.{Cc6470, Cc6476}
use Rattle.charges.specs.Codes.{all_codes, column_under}
use Rattle.statement.specs.declared.line.Line.{Line}
use Rattle.statement.specs.Lines.{line, cents_at, is_billed, party_changes, parties_changes, balance_change, interval_changes, changes}
use Rattle.statement.proofs.Places.{places_more}

-- one more of a list is added, where it passes a test
added_next : {X : Type 0} (p : X → Bool) (xs before so : List X) (i : ℕ) (d : X) → i < length xs → so ≡ before ++ filter p (take i xs)
    → so ++ filter p (get_or xs i d ∷ []) ≡ before ++ filter p (take (i + 1) xs)
added_next p xs before so i d inside is =
    ap (λ l. l ++ filter p (get_or xs i d ∷ [])) is ∙ append_assoc before (filter p (take i xs)) _ ∙ ap (λ l. before ++ l) (sym (filter_more p xs i d inside))

-- more are added, where they pass
added_behind : {X : Type 0} (p : X → Bool) (before so xs ys : List X) → so ≡ before ++ filter p xs → so ++ filter p ys ≡ before ++ filter p (xs ++ ys)
added_behind p before so xs ys is =
    ap (λ l. l ++ filter p ys) is ∙ append_assoc before (filter p xs) (filter p ys) ∙ ap (λ l. before ++ l) (sym (filter-append p xs ys))

module _ (run place : ℕ) (new earlier : IntervalAmounts) (i id : ℕ) where
  -- a party's line under the next code
  pub code_added : (k : ℕ) (before so : List Line) (column other : List Cents) (cents : Cents) → k < length all_codes
      → column ≡ column_under (get_or all_codes k Cc6470) new → other ≡ column_under (get_or all_codes k Cc6470) earlier
      → cents.0 ≡ cents_at column i -ℤ cents_at other i → so ≡ before ++ filter is_billed (take k (party_changes run place new earlier i id))
      → so ++ filter is_billed (line run place id (get_or all_codes k Cc6470) cents.0 ∷ []) ≡ before ++ filter is_billed (take (k + 1) (party_changes run place new earlier i id))
  unfolding party_changes
  code_added k before so column other cents inside is is_other change so_far =
      let at : ChargeCode → Line = λ code. line run place id code (cents_at (column_under code new) i -ℤ cents_at (column_under code earlier) i) in
      let code : ChargeCode = get_or all_codes k Cc6470 in
      let same : line run place id code cents.0 ≡ get_or (map at all_codes) k (at Cc6470) =
      ap (line run place id code) change ∙ rw (is, is_other) (sym (get_or-map at all_codes k Cc6470 (at Cc6470) inside)) in
      ap (λ l. so ++ filter is_billed (l ∷ [])) same ∙ added_next is_billed (map at all_codes) before so k (at Cc6470) inside so_far

  -- with all codes they are all of the party's lines
  pub codes_added : (k : ℕ) → length all_codes ≤ k → take k (party_changes run place new earlier i id) ≡ party_changes run place new earlier i id
  unfolding party_changes
  codes_added k all = take_all k (party_changes run place new earlier i id) all

-- the lines of the next party
pub party_added : (run place : ℕ) (new earlier : IntervalAmounts) (ids : List ℕ) (i : ℕ) (before so : List Line)
    → so ≡ before ++ filter is_billed (parties_changes run place new earlier ids i)
    → so ++ filter is_billed (party_changes run place new earlier i (slice_index ids i)) ≡ before ++ filter is_billed (parties_changes run place new earlier ids (i + 1))
unfolding parties_changes
party_added run place new earlier ids i before so is =
    let f : ℕ → List Line = λ i. party_changes run place new earlier i (slice_index ids i) in
    added_behind is_billed before so (parties_changes run place new earlier ids i) (f i) is ∙ ap (λ l. before ++ filter is_billed l) (sym (places_more f i))

-- the line of account 0
pub balance_added : (run place : ℕ) (new earlier : IntervalAmounts) (ids : List ℕ) (before so : List Line) (cents : Cents) → cents.0 ≡ new.balance.0 -ℤ earlier.balance.0
    → so ≡ before ++ filter is_billed (parties_changes run place new earlier ids (length ids))
    → so ++ filter is_billed (line run place 0 Cc6476 cents.0 ∷ []) ≡ before ++ filter is_billed (interval_changes run place new earlier ids)
unfolding interval_changes
balance_added run place new earlier ids before so cents is so_far =
    ap (λ z. so ++ filter is_billed (line run place 0 Cc6476 z ∷ [])) is
    ∙ added_behind is_billed before so (parties_changes run place new earlier ids (length ids)) (balance_change run place new earlier ∷ []) so_far

-- the lines of the next interval
pub interval_added : (run : ℕ) (new earlier : ℕ → IntervalAmounts) (ids : List ℕ) (place : ℕ) (so : List Line) (x y : IntervalAmounts)
    → x ≡ new place → y ≡ earlier place → so ≡ filter is_billed (changes run new earlier ids place)
    → so ++ filter is_billed (interval_changes run place x y ids) ≡ filter is_billed (changes run new earlier ids (place + 1))
unfolding changes
interval_added run new earlier ids place so x y is is_earlier so_far =
    let f : ℕ → List Line = λ place. interval_changes run place (new place) (earlier place) ids in
    let same : interval_changes run place x y ids ≡ f place = rw (is, is_earlier) refl in
    ap (λ l. so ++ filter is_billed l) same
    ∙ added_behind is_billed [] so (changes run new earlier ids place) (f place) so_far
    ∙ ap (filter is_billed) (sym (places_more f place))
