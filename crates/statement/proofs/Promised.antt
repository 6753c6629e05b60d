-- What holds along every history (Reaching) gives the promises. Of the charges it uses `IntervalLaws`, `EnergyLaws` and which columns an
-- interval has (`IntervalCharged`). No formula, rule or rounding is opened. Assumes nothing.
use Rattle.std.proofs.Common.{◌≡◌, ◌≢◌, ℕ, ◌<◌, ◌≤◌, true, false, is_some, List, [], ◌∷◌, ◌++◌, map, length, get_or, drop, ℤ, pos, refl, sym, ap, subst, ◌∙◌, ◌==◌, ⊎_elim, arith, sum}
use Rattle.std.specs.List.{All, list_any}
use Rattle.std.proofs.lemmas.Bool.{cases_Bool}
use Rattle.std.proofs.lemmas.List.{length-map}
use Rattle.std.proofs.lemmas.List.Elements.{All-nil, All-cons, All-head, All-tail}
use Rattle.sharing.specs.Laws.{total}
use Rattle.tables.specs.Tables as tables
use Rattle.deemed.specs.Ranges.{hour_length}
use Rattle.deemed.specs.Pools.{NearPart}
use Rattle.rows.specs.declared.figures.Cents.{Cents}
use Rattle.rows.specs.declared.area.Area.{Area}
use Rattle.rows.specs.declared.party.Party.{Party}
use Rattle.rows.specs.Kinds.{is_ciso}
use Rattle.formulas.specs.Surcharge.{area_pool}
use Rattle.records.specs.Ranges.{most_parties}
use Rattle.records.specs.Hours.{party_id}
use Rattle.charges.specs.declared.amounts.IntervalAmounts.{IntervalAmounts}
use Rattle.charges.specs.declared.code.ChargeCode.{ChargeCode}
use Rattle.charges.specs.declared.code.ChargeCode.TheVariants.{Cc6470, Cc6474, Cc6475, Cc6476, Cc6477}
use Rattle.charges.specs.Columns.{parties_in, entries_in, cents_in, weight, weights}
use Rattle.charges.specs.Amounts.{column, amount_6470, amount_6474, amount_6475, offset_pool, rest}
use Rattle.charges.specs.Codes.{column_under}
use Rattle.charges.specs.Charged.{at_index, offset_shares_of}
use Rattle.statement.specs.declared.statement.Statement.{Statement}
use Rattle.statement.specs.Lines.{cents_at, billed, come_to, same_code}
use Rattle.statement.specs.Statements.{ids}
use Rattle.statement.specs.Promises.{SoundLines, BilledInFull, PoolsPaid, Promises, HistoriesKeepPromises}
use Rattle.statement.proofs.Known.{known, Billed, Reached}
use Rattle.statement.proofs.Columns.{column_of_tally, entries_of_column, cents_of_column, charged_behind, agrees_of, come_to_agrees}
use Rattle.statement.proofs.IntervalTotals.{same_total, offset_total}
use Rattle.statement.proofs.Reaching.{reached}

abbrev in_column : (Party → ℤ) → Party → Cents
in_column f p = record { 0 = f p }

-- columns that are the same in front have the same amounts there
same_in_front : (f g : Party → ℤ) (ps : List Party) (xs ys : List Cents) → map (in_column f) ps ++ xs ≡ map (in_column g) ps ++ ys → All (λ p. f p ≡ g p) ps
same_in_front f g [] xs ys e = All-nil (λ p. f p ≡ g p)
same_in_front f g (p ∷ ps) xs ys e =
    All-cons (λ q. f q ≡ g q) p ps (ap (λ l. cents_at l 0) e) (same_in_front f g ps xs ys (ap (drop 1) e))

-- maps that are the same are so at each element
same_mapped : {X : Type 0} (f g : X → ℤ) (xs : List X) → map f xs ≡ map g xs → All (λ x. f x ≡ g x) xs
same_mapped f g [] e = All-nil (λ x. f x ≡ g x)
same_mapped f g (x ∷ xs) e = All-cons (λ y. f y ≡ g y) x xs (ap (λ l. get_or l 0 (pos 0)) e) (same_mapped f g xs (ap (drop 1) e))

-- what holds of the images holds at each element
all_unmapped : {X Y : Type 0} (P : Y → Type 0) (f : X → Y) (xs : List X) → All P (map f xs) → All (λ x. P (f x)) xs
all_unmapped P f [] each = All-nil (λ x. P (f x))
all_unmapped P f (x ∷ xs) each =
    All-cons (λ y. P (f y)) x xs (All-head P (f x) (map f xs) each) (all_unmapped P f xs (All-tail P (f x) (map f xs) each))

-- a WEIM area has no share of the offset
weim_shares : (shares : ℤ → List ℕ → List ℤ) (pool : ℤ) (parties : List Party) (place : ℕ) (a : Area) → is_ciso a.kind ≡ false
    → offset_shares_of shares pool parties place a ≡ map (λ _. pos 0) (parties_in a.id parties)
weim_shares shares pool parties place a weim = rw weim refl

-- in an interval of a settled statement
module _ (b : Statement) (known : Reached b) (settled : b.settled ≡ true) (place : ℕ) (inside : place < hour_length) where
  abbrev parties : List Party
  parties = b.records.parties.rows

  abbrev of_billed : Billed b
  of_billed = known.billed settled

  abbrev amounts : IntervalAmounts
  amounts = at_index of_billed.amounts place

  abbrev party_billed : ChargeCode → Party → ℤ
  party_billed code p = billed b.lines.rows code place p.id

  -- each column of the amounts is what the parties have been billed
  is_billed : (code : ChargeCode) → column_under code amounts ≡ column (party_billed code) parties
  is_billed code = (of_billed.tallied place inside).parties code ∙ column_of_tally (billed b.lines.rows code place) parties

  in_full : BilledInFull b place
  in_full =
      let charged = of_billed.charged place inside in
      let same : (code : ChargeCode) (f : Party → ℤ) → column_under code amounts ≡ column f parties → All (λ p. party_billed code p ≡ f p) parties =
      λ code f e. same_in_front (party_billed code) f parties (rest parties) (rest parties) (sym (is_billed code) ∙ e) in
      record {
        cc_6470 = same Cc6470 (amount_6470 b.records.resources.rows place) charged.cc_6470;
        cc_6474 = same Cc6474 (amount_6474 place) charged.cc_6474;
        cc_6475 = same Cc6475 (amount_6475 place) charged.cc_6475;
      }

  -- what an area's parties have in a column is what they have been billed
  cents_billed : (code : ChargeCode) (area : ℕ) → cents_in area parties (column_under code amounts) ≡ map (party_billed code) (parties_in area parties)
  cents_billed code area = ap (cents_in area parties) (is_billed code) ∙ cents_of_column (party_billed code) area parties

  entries_billed : (code : ChargeCode) (area : ℕ) → entries_in area parties (column_under code amounts) ≡ map (λ p. (p, in_column (party_billed code) p)) (parties_in area parties)
  entries_billed code area = ap (entries_in area parties) (is_billed code) ∙ entries_of_column (party_billed code) area parties

  at_parties : (P : Party × Cents → Type 0) (code : ChargeCode) (area : ℕ) → All P (entries_in area parties (column_under code amounts))
      → All (λ p. P (p, in_column (party_billed code) p)) (parties_in area parties)
  at_parties P code area each =
      all_unmapped P (λ p. (p, in_column (party_billed code) p)) (parties_in area parties) (subst (All P) (entries_billed code area) each)

  -- that an entry is near its part of an area's pool
  abbrev Near : ℤ → Area → Party × Cents → Type 0
  Near pool a e = NearPart pool (sum (weights place a parties)) (weight a.kind place e.0) e.1.0

  paid : PoolsPaid b place
  paid =
      let areas = b.records.areas.rows in
      let lines = b.lines.rows in
      let laws = of_billed.laws place inside in
      let tallied = of_billed.tallied place inside in
      let few : length parties ≤ most_parties = let t = known.sound.parties in omega (arith, t.within_room, t.bound) in
      let behind = charged_behind (of_billed.charged place inside) few in
      let same = same_total lines (ids b) place (come_to lines (ids b) place) amounts (come_to_agrees lines (ids b) place) (agrees_of lines (ids b) place amounts tallied) (λ c. same_code c Cc6477) in
      record {
        surcharges = λ k d lt. sym (ap total (cents_billed Cc6476 _)) ∙ laws.surcharges_paid k d lt;
        offset = known.offset place inside ∙ same ∙ rw (length-map) (offset_total (length parties) amounts few behind) ∙ laws.offset_paid;
        surcharge_parts = λ k d lt. let a = get_or areas k d in at_parties (Near (area_pool place a) a) Cc6476 a.id (laws.surcharges_near k d lt);
        no_offset = λ k d lt weim.
            let a = get_or areas k d in
            let none = weim_shares of_billed.shares (offset_pool b.records.resources.rows parties place) parties place a weim in
            same_mapped (party_billed Cc6477) (λ _. pos 0) (parties_in a.id parties) (sym (cents_billed Cc6477 a.id) ∙ (of_billed.charged place inside).cc_6477 k d lt ∙ none);
        account_0 = sym tallied.balance ∙ (of_billed.charged place inside).balance_is;
        offset_parts = λ k d lt ciso. let a = get_or areas k d in at_parties (Near (offset_pool b.records.resources.rows parties place) a) Cc6477 a.id (laws.offset_near k d lt ciso);
      }

found_any : (rows : List Party) (account : ℕ) → is_some (tables.row_under party_id account rows) ≡ list_any (λ id. id == account) (map party_id rows)
found_any [] account = refl
found_any (p ∷ ps) account = ⊎_elim (λ own. rw own refl) (λ other. rw other (found_any ps account)) (cases_Bool (p.id == account))

-- a known account that is not 0 is a party's
of_party : (rows : List Party) (account : ℕ) → known (map party_id rows) account ≡ true → account ≢ 0 → is_some (tables.row_under party_id account rows) ≡ true
of_party rows account e some = rw (found_any rows account) (grind (arith, e, some))

sound_lines : (b : Statement) → Reached b → SoundLines b
sound_lines b known = record {
  each = known.each;
  accounts = λ k d inside. of_party b.records.parties.rows (get_or b.lines.rows k d).account (known.accounts k d inside);
  in_turn = known.in_turn;
  fit = known.fit;
  bound = known.bound;
  counted = known.counted;
}

pub promised : (b : Statement) → Reached b → Promises b
promised b known = record {
  sound = known.sound;
  lines = sound_lines b known;
  balances = known.balances;
  billed = in_full b known;
  pools = paid b known;
  energies = λ settled. (known.billed settled).energies;
}

pub histories_keep_promises : HistoriesKeepPromises
histories_keep_promises b history = promised b (reached b history)
