-- What an accepted call leaves is read under its key, and what is read after calls was said last. Assumes nothing.
use Rattle.std.proofs.Common.{◌≡◌, refl, sym, ap, ◌∙◌, subst, subst₂, ℕ, zero, suc, ◌<◌, ◌==◌, ◌&&◌, Bool, true, false, cond, List, [], ◌∷◌, ◌++◌, replicate, slice_get, Option, Some, None, is_some, IfSome, option_map, Result, Ok, IfOk, ℤ, arith, eqb-true, true≢false}
use Rattle.std.specs.List.{All}
use Rattle.std.specs.Option.{option_and_then, option_map_or, option_or}
use Rattle.std.proofs.lemmas.Bool.Decides.{nat_tests}
use Rattle.std.proofs.lemmas.List.Folds.{find-append}
use Rattle.tables.specs.declared.refusal.Reason.{Reason}
use Rattle.tables.specs.declared.refusal.Refusal.{Refusal}
use Rattle.tables.specs.Refusals.{first_fit, answer_by, state_after}
use Rattle.tables.specs.Ranges.{is_id, as_id, flag}
use Rattle.tables.specs.Tables.{row_under, with_row}
use Rattle.tables.proofs.Fits.{NoneFits, none_fits}
use Rattle.tables.proofs.Changed.{found_holds}
use Rattle.tables.proofs.Pushed.{found_pushed}
use Rattle.deemed.specs.Ranges.{hour_length}
use Rattle.rows.specs.declared.area.Area.{Area}
use Rattle.rows.specs.declared.party.Party.{Party}
use Rattle.rows.specs.declared.resource.Resource.{Resource}
use Rattle.rows.specs.declared.given.GivenCode.{GivenCode}
use Rattle.rows.specs.declared.given.GivenCode.TheVariants.{PassThrough, Cc6474, Cc6475}
use Rattle.rows.specs.Ranges.{quarters}
use Rattle.rows.specs.Slots.{is_slot, is_interval, slot_index}
use Rattle.rows.specs.Figures.{as_unsigned, as_given}
use Rattle.rows.specs.Codes.{given_code}
use Rattle.rows.specs.Rows.{new_area, new_party, new_resource}
use Rattle.rows.specs.Posts.{energy_record, tag_record, election_record, test_record, transfer_record}
use Rattle.rows.specs.Records.{Table, Areas, Parties, Resources, Row, id_of, Whole, Kind, OfEnergy, OfTag, OfElection, OfTest, OfTransfer, OfDemand, OfGiven, Record, table, slots, unposted, get}
use Rattle.rows.proofs.Records.{whole_there, slot_inside, entered, entered_all, own_kind}
use Rattle.records.specs.declared.call.Call.{Call}
use Rattle.records.specs.declared.call.Call.TheVariants.{EnterArea, EnterParty, EnterResource, PostEnergy, PostTag, PostElection, PostTest, PostTransfer, PostDemand, PostGiven}
use Rattle.records.specs.View.{Hour}
use Rattle.records.specs.Hours.{area_id, party_id, resource_id, opened}
use Rattle.records.specs.Keys.{table_of, Key, key, Post, read, put, said_of}
use Rattle.records.specs.Calls.{reasons, key_of, post_of, made_by, place_of, answer_to, hour_after, refusal}
use Rattle.records.specs.Readings.{slot_read}
use Rattle.records.specs.Sound.{Sound}
use Rattle.records.specs.Standing.{Stands}
use Rattle.records.specs.Kept.{now_stands, said_by, IsNext, KeepsRecords, after, last_said, LastStands}
use Rattle.records.proofs.OneSlot.{one}
use Rattle.records.proofs.SoundAfter.{lasts_left}

-- a row that is entered has the slot
module _ (h : Hour) (s : Sound h) where
  whole_rows : (t : Table) → All (Whole t) (table_of t h).rows
  whole_rows Areas = s.whole_areas
  whole_rows Parties = s.whole_parties
  whole_rows Resources = s.whole_resources

  slot_there : (k : Kind) (id i : ℕ) → is_some (row_under (id_of (table k)) id (table_of (table k) h).rows) ≡ true → i < slots k → is_some (read (key k id i) h) ≡ true
  slot_there k id i there inside = at (row_under (id_of (table k)) id (table_of (table k) h).rows) refl there
    where
      at : (o : Option (Row (table k))) → row_under (id_of (table k)) id (table_of (table k) h).rows ≡ o → is_some o ≡ true → is_some (option_and_then (get k i) o) ≡ true
      at None e there = absurd (true≢false (sym there))
      at (Some row) e there = whole_there k i row (found_holds (λ x. id_of (table k) x == id) (Whole (table k)) (table_of (table k) h).rows row (whole_rows (table k)) e) inside

  -- an accepted post is of a slot that is there
  post_there : (call : Call) → first_fit (reasons call h) ≡ None → IfSome (post_of call) (λ p. is_some (read p.key h) ≡ true)
  post_there (EnterArea id kind) e = tt
  post_there (EnterParty id area) e = tt
  post_there (EnterResource id owner kind net exempt) e = tt
  post_there (PostEnergy id interval post) e =
      let none = none_fits (reasons (PostEnergy id interval post) h) e in
      slot_there OfEnergy (as_id id) (slot_index interval) (grind (arith, none)) (slot_inside hour_length interval (grind (arith, none)))
  post_there (PostTag id interval post) e =
      let none = none_fits (reasons (PostTag id interval post) h) e in
      slot_there OfTag (as_id id) (slot_index interval) (grind (arith, none)) (slot_inside hour_length interval (grind (arith, none)))
  post_there (PostElection id post) e =
      let none = none_fits (reasons (PostElection id post) h) e in
      slot_there OfElection (as_id id) 0 (grind (arith, none)) (omega arith)
  post_there (PostTest id quarter post) e =
      let none = none_fits (reasons (PostTest id quarter post) h) e in
      slot_there OfTest (as_id id) (slot_index quarter) (grind (arith, none)) (slot_inside quarters quarter (grind (arith, none)))
  post_there (PostTransfer id interval post) e =
      let none = none_fits (reasons (PostTransfer id interval post) h) e in
      slot_there OfTransfer (as_id id) (slot_index interval) (grind (arith, none)) (slot_inside hour_length interval (grind (arith, none)))
  post_there (PostDemand id interval units) e =
      let none = none_fits (reasons (PostDemand id interval units) h) e in
      slot_there OfDemand (as_id id) (slot_index interval) (grind (arith, none)) (slot_inside hour_length interval (grind (arith, none)))
  post_there (PostGiven id interval code cents) e = under (given_code code)
    where
      none : NoneFits (reasons (PostGiven id interval code cents) h)
      none = none_fits (reasons (PostGiven id interval code cents) h) e

      under : (o : Option GivenCode) → IfSome (option_map (λ c. record { key = key_of (OfGiven c) id interval; what = as_given cents }) o) (λ (p : Post). is_some (read p.key h) ≡ true)
      under None = tt
      under (Some c) = slot_there (OfGiven c) (as_id id) (slot_index interval) (grind (arith, none)) (slot_inside hour_length interval (grind (arith, none)))

-- a post says its record of its own key
same_id : (id : ℕ) → (id == id) ≡ true
same_id id = grind (arith, nat_tests)

said_own : (p : Post) → said_of p.key p ≡ Some p.what
said_own p = rw (same_id p.key.id, same_id p.key.index) (own_kind p.key.kind p.what)

-- and it is read there
read_own : (p : Post) (h : Hour) → is_some (read p.key h) ≡ true → read p.key (put p h) ≡ Some p.what
read_own p h there = one p h p.key ∙ ap (λ said. option_map (now_stands said) (read p.key h)) (said_own p) ∙ at (read p.key h) there
  where
    at : (o : Option (Record p.key.kind)) → is_some o ≡ true → option_map (now_stands (Some p.what)) o ≡ Some p.what
    at None e = absurd (true≢false (sym e))
    at (Some x) e = refl

module _ (h : Hour) (s : Sound h) where
  -- a slot's record, by the numbers of the call
  slot_stands : (k : Kind) (id slot : ℤ) (r : Record k) → is_id id ≡ true → is_slot (slots k) slot ≡ true → is_some (read (key_of k id slot) h) ≡ true
      → slot_read k id slot (put (record { key = key_of k id slot; what = r }) h) ≡ Ok r
  slot_stands k id slot r i n there = rw (i, n, read_own (record { key = key_of k id slot; what = r }) h there) refl

  pub stands_made : (call : Call) → first_fit (reasons call h) ≡ None → Stands call (made_by call h)
  unfolding Stands
  stands_made (EnterArea id None) e = absurd (grind (arith, none_fits (reasons (EnterArea id None) h) e))
  stands_made (EnterArea id (Some kind)) e = found_pushed area_id h.areas.rows (new_area (as_id id) kind) (grind (arith, none_fits (reasons (EnterArea id (Some kind)) h) e))
  stands_made (EnterParty id area) e = found_pushed party_id h.parties.rows (new_party (as_id id) (as_id area)) (grind (arith, none_fits (reasons (EnterParty id area) h) e))
  stands_made (EnterResource id owner None net exempt) e = absurd (grind (arith, none_fits (reasons (EnterResource id owner None net exempt) h) e))
  stands_made (EnterResource id owner (Some kind) net exempt) e =
      found_pushed resource_id h.resources.rows (new_resource (as_id id) (as_id owner) kind (flag net) (flag exempt))
      (grind (arith, none_fits (reasons (EnterResource id owner (Some kind) net exempt) h) e))
  stands_made (PostEnergy id interval post) e =
      let none = none_fits (reasons (PostEnergy id interval post) h) e in
      slot_stands OfEnergy id interval (energy_record post) (grind (arith, none)) (grind (arith, none)) (post_there h s (PostEnergy id interval post) e)
  stands_made (PostTag id interval post) e =
      let none = none_fits (reasons (PostTag id interval post) h) e in
      slot_stands OfTag id interval (tag_record post) (grind (arith, none)) (grind (arith, none)) (post_there h s (PostTag id interval post) e)
  stands_made (PostElection id post) e =
      let none = none_fits (reasons (PostElection id post) h) e in
      let i : is_id id ≡ true = grind (arith, none) in
      rw (i, read_own (record { key = key OfElection (as_id id) 0; what = election_record post }) h (post_there h s (PostElection id post) e)) refl
  stands_made (PostTest id quarter post) e =
      let none = none_fits (reasons (PostTest id quarter post) h) e in
      slot_stands OfTest id quarter (test_record post) (grind (arith, none)) (grind (arith, none)) (post_there h s (PostTest id quarter post) e)
  stands_made (PostTransfer id interval post) e =
      let none = none_fits (reasons (PostTransfer id interval post) h) e in
      slot_stands OfTransfer id interval (transfer_record post) (grind (arith, none)) (grind (arith, none)) (post_there h s (PostTransfer id interval post) e)
  stands_made (PostDemand id interval units) e =
      let none = none_fits (reasons (PostDemand id interval units) h) e in
      slot_stands OfDemand id interval (as_unsigned units) (grind (arith, none)) (grind (arith, none)) (post_there h s (PostDemand id interval units) e)
  stands_made (PostGiven id interval code cents) e = under (given_code code) refl
    where
      call : Call
      call = PostGiven id interval code cents

      none : NoneFits (reasons call h)
      none = none_fits (reasons call h) e

      under : (o : Option GivenCode) → given_code code ≡ o → Stands call (made_by call h)
      under None is = absurd (grind (arith, none, is))
      under (Some c) is =
          let i : is_id id ≡ true = grind (arith, none) in
          let n : is_interval interval ≡ true = grind (arith, none) in
          let there : is_some (read (key_of (OfGiven c) id interval) h) ≡ true = slot_there h s (OfGiven c) (as_id id) (slot_index interval) (grind (arith, none)) (slot_inside hour_length interval n) in
          rw (is, i, n, read_own (record { key = key_of (OfGiven c) id interval; what = as_given cents }) h there) refl

-- the same of what a call leaves, by its answer
pub stands_left : (call : Call) (h g : Hour) (r : Result (Unit {0}) Refusal) → r ≡ answer_to call h → g ≡ hour_after call h → Sound h → IfOk r (λ _. Stands call g)
stands_left call h g r answer made s =
    subst₂ (λ r g. IfOk r (λ _. Stands call g)) (sym answer) (sym made) (at (first_fit (reasons call h)) refl)
  where
    at : (o : Option Reason) → first_fit (reasons call h) ≡ o → IfOk (answer_by (option_map (λ r. refusal r (place_of call)) o)) (λ _. Stands call (state_after o (made_by call h) h))
    at None none = stands_made h s call none
    at (Some r) some = tt

-- what is read stays, where nothing is said of it
stays : {X : Type 0} (new : X) (o : Option X) → IsNext new None o o
stays new None = (refl, tt)
stays new (Some x) = refl

-- a post
next_posted : {X : Type 0} (new : X) (said o : Option X) → (o ≡ None → said ≡ None) → IsNext new said o (option_map (now_stands said) o)
next_posted new said None unsaid = (unsaid refl, tt)
next_posted new said (Some x) unsaid = refl

-- nothing is said of a slot that is not there
unsaid_if : {R : Type 0} (b : Bool) → cond {A = Option R} b None None ≡ None
unsaid_if true = refl
unsaid_if false = refl

unsaid_same : (k : Kind) (id i other n : ℕ) (r : Record k) (h : Hour) → is_some (read (key k id i) h) ≡ true → read (key k other n) h ≡ None → cond (id == other && i == n) (Some r) None ≡ None
unsaid_same k id i other n r h there e = go (id == other) (i == n) refl refl
  where
    go : (b c : Bool) → (id == other) ≡ b → (i == n) ≡ c → cond (b && c) (Some r) None ≡ None
    go false c e1 e2 = refl
    go true false e1 e2 = refl
    go true true e1 e2 =
        let moved : is_some (read (key k other n) h) ≡ true =
        subst (λ j. is_some (read (key k j n) h) ≡ true) (eqb-true id other e1) (subst (λ j. is_some (read (key k id j) h) ≡ true) (eqb-true i n e2) there) in
        absurd (true≢false (sym moved ∙ ap is_some e))

unsaid : (k j : Kind) (id i other n : ℕ) (r : Record k) (h : Hour) → is_some (read (key k id i) h) ≡ true → read (key j other n) h ≡ None
    → said_of (key j other n) (record { key = key k id i; what = r }) ≡ None
unsaid OfEnergy OfEnergy id i other n r h there e = unsaid_same OfEnergy id i other n r h there e
unsaid OfTag OfTag id i other n r h there e = unsaid_same OfTag id i other n r h there e
unsaid OfElection OfElection id i other n r h there e = unsaid_same OfElection id i other n r h there e
unsaid OfTest OfTest id i other n r h there e = unsaid_same OfTest id i other n r h there e
unsaid OfTransfer OfTransfer id i other n r h there e = unsaid_same OfTransfer id i other n r h there e
unsaid OfDemand OfDemand id i other n r h there e = unsaid_same OfDemand id i other n r h there e
unsaid (OfGiven PassThrough) (OfGiven PassThrough) id i other n r h there e = unsaid_same (OfGiven PassThrough) id i other n r h there e
unsaid (OfGiven Cc6474) (OfGiven Cc6474) id i other n r h there e = unsaid_same (OfGiven Cc6474) id i other n r h there e
unsaid (OfGiven Cc6475) (OfGiven Cc6475) id i other n r h there e = unsaid_same (OfGiven Cc6475) id i other n r h there e
unsaid k j id i other n r h there e = unsaid_if (id == other && i == n)

-- a row that is entered has in each slot what stands where nothing was posted
replicated : {X : Type 0} (count : ℕ) (x : X) (i : ℕ) → IfSome (slice_get (replicate count x) i) (λ y. y ≡ x)
replicated zero x i = tt
replicated (suc count) x zero = refl
replicated (suc count) x (suc i) = replicated count x i

new_slot : (k : Kind) (i : ℕ) (row : Row (table k)) → IfSome (get k i (entered (table k) row)) (λ y. y ≡ unposted k)
new_slot k i row = subst (λ xs. IfSome (slice_get xs i) (λ y. y ≡ unposted k)) (sym (entered_all k row)) (replicated (slots k) (unposted k) i)

-- and the rows that were there stay
next_entered : {T R : Type 0} (key_of : T → ℕ) (id : ℕ) (rows : List T) (row : T) (look : T → Option R) (new : R) → IfSome (look row) (λ y. y ≡ new)
    → IsNext new None (option_and_then look (row_under key_of id rows)) (option_and_then look (row_under key_of id (rows ++ row ∷ [])))
next_entered key_of id rows row look new is =
    rw (find-append (λ x. key_of x == id) rows (row ∷ [])) (go (row_under key_of id rows) (key_of row == id))
  where
    fresh : (o : Option _) → IfSome o (λ y. y ≡ new) → IsNext new None None o
    fresh None e = (refl, tt)
    fresh (Some y) e = (refl, e)

    go : (o : Option _) (b : Bool) → IsNext new None (option_and_then look o) (option_and_then look (option_or o (cond b (Some row) None)))
    go (Some x) b = stays new (look x)
    go None true = fresh (look row) is
    go None false = (refl, tt)

next_area : (k : Kind) (id i : ℕ) (h : Hour) (row : Area)
    → IsNext (unposted k) None (read (key k id i) h) (read (key k id i) (record h { areas = with_row h.areas (entered Areas row) }))
next_area OfElection id i h row = next_entered (id_of Areas) id h.areas.rows (entered Areas row) (get OfElection i) (unposted OfElection) (new_slot OfElection i row)
next_area OfTest id i h row = next_entered (id_of Areas) id h.areas.rows (entered Areas row) (get OfTest i) (unposted OfTest) (new_slot OfTest i row)
next_area OfTransfer id i h row = next_entered (id_of Areas) id h.areas.rows (entered Areas row) (get OfTransfer i) (unposted OfTransfer) (new_slot OfTransfer i row)
next_area k id i h row = stays (unposted k) (read (key k id i) h)

next_party : (k : Kind) (id i : ℕ) (h : Hour) (row : Party)
    → IsNext (unposted k) None (read (key k id i) h) (read (key k id i) (record h { parties = with_row h.parties (entered Parties row) }))
next_party OfDemand id i h row = next_entered (id_of Parties) id h.parties.rows (entered Parties row) (get OfDemand i) (unposted OfDemand) (new_slot OfDemand i row)
next_party (OfGiven c) id i h row = next_entered (id_of Parties) id h.parties.rows (entered Parties row) (get (OfGiven c) i) (unposted (OfGiven c)) (new_slot (OfGiven c) i row)
next_party k id i h row = stays (unposted k) (read (key k id i) h)

next_resource : (k : Kind) (id i : ℕ) (h : Hour) (row : Resource)
    → IsNext (unposted k) None (read (key k id i) h) (read (key k id i) (record h { resources = with_row h.resources (entered Resources row) }))
next_resource OfEnergy id i h row = next_entered (id_of Resources) id h.resources.rows (entered Resources row) (get OfEnergy i) (unposted OfEnergy) (new_slot OfEnergy i row)
next_resource OfTag id i h row = next_entered (id_of Resources) id h.resources.rows (entered Resources row) (get OfTag i) (unposted OfTag) (new_slot OfTag i row)
next_resource k id i h row = stays (unposted k) (read (key k id i) h)

next_put : (p : Post) (h : Hour) (k : Key) → is_some (read p.key h) ≡ true → IsNext (unposted k.kind) (said_of k p) (read k h) (read k (put p h))
next_put p h k there =
    subst (IsNext (unposted k.kind) (said_of k p) (read k h)) (sym (one p h k))
    (next_posted (unposted k.kind) (said_of k p) (read k h) (unsaid p.key.kind k.kind p.key.id p.key.index k.id k.index p.what h there))

next_made : (call : Call) (h : Hour) → first_fit (reasons call h) ≡ None → Sound h → (k : Key)
    → IsNext (unposted k.kind) (option_and_then (said_of k) (post_of call)) (read k h) (read k (made_by call h))
next_made (EnterArea id None) h e s k = stays (unposted k.kind) (read k h)
next_made (EnterArea id (Some kind)) h e s k = next_area k.kind k.id k.index h (new_area (as_id id) kind)
next_made (EnterParty id area) h e s k = next_party k.kind k.id k.index h (new_party (as_id id) (as_id area))
next_made (EnterResource id owner None net exempt) h e s k = stays (unposted k.kind) (read k h)
next_made (EnterResource id owner (Some kind) net exempt) h e s k = next_resource k.kind k.id k.index h (new_resource (as_id id) (as_id owner) kind (flag net) (flag exempt))
next_made (PostEnergy id interval post) h e s k = next_put (record { key = key_of OfEnergy id interval; what = energy_record post }) h k (post_there h s (PostEnergy id interval post) e)
next_made (PostTag id interval post) h e s k = next_put (record { key = key_of OfTag id interval; what = tag_record post }) h k (post_there h s (PostTag id interval post) e)
next_made (PostElection id post) h e s k = next_put (record { key = key OfElection (as_id id) 0; what = election_record post }) h k (post_there h s (PostElection id post) e)
next_made (PostTest id quarter post) h e s k = next_put (record { key = key_of OfTest id quarter; what = test_record post }) h k (post_there h s (PostTest id quarter post) e)
next_made (PostTransfer id interval post) h e s k = next_put (record { key = key_of OfTransfer id interval; what = transfer_record post }) h k (post_there h s (PostTransfer id interval post) e)
next_made (PostDemand id interval units) h e s k = next_put (record { key = key_of OfDemand id interval; what = as_unsigned units }) h k (post_there h s (PostDemand id interval units) e)
next_made (PostGiven id interval code cents) h e s k = under (given_code code) (post_there h s (PostGiven id interval code cents) e)
  where
    post : GivenCode → Post
    post c = record { key = key_of (OfGiven c) id interval; what = as_given cents }

    under : (o : Option GivenCode) → IfSome (option_map post o) (λ p. is_some (read p.key h) ≡ true)
        → IsNext (unposted k.kind) (option_and_then (said_of k) (option_map post o)) (read k h) (read k (option_map_or (λ p. put p h) (option_map post o) h))
    under None there = stays (unposted k.kind) (read k h)
    under (Some c) there = next_put (post c) h k there

pub keeps_records : (call : Call) (h : Hour) → Sound h → KeepsRecords call h (hour_after call h)
keeps_records call h s k = at (first_fit (reasons call h)) refl
  where
    at : (o : Option Reason) → first_fit (reasons call h) ≡ o
        → IsNext (unposted k.kind) (state_after o (option_and_then (said_of k) (post_of call)) None) (read k h) (read k (state_after o (made_by call h) h))
    at None e = next_made call h e s k
    at (Some r) e = stays (unposted k.kind) (read k h)

-- what is read is what stood, and where nothing is read nothing was said
abbrev pub Agrees : {X : Type 0} → X → X → Option X → Type 0
Agrees new stood None = stood ≡ new
Agrees new stood (Some x) = x ≡ stood

agrees_next : {X : Type 0} (new stood : X) (said o o' : Option X) → IsNext new said o o' → Agrees new stood o → Agrees new (now_stands said stood) o'
agrees_next new stood said None None next a = rw next.0 a
agrees_next new stood said None (Some y) next a = rw next.0 (next.1 ∙ sym a)
agrees_next new stood said (Some x) o' next a = subst (Agrees new (now_stands said stood)) (sym next) (ap (now_stands said) a)

pub agrees_after : (call : Call) (h : Hour) → Sound h → (k : Key) (stood : Record k.kind) → Agrees (unposted k.kind) stood (read k h)
    → Agrees (unposted k.kind) (now_stands (said_by k call h) stood) (read k (hour_after call h))
agrees_after call h s k stood a =
    agrees_next (unposted k.kind) stood (said_by k call h) (read k h) (read k (hour_after call h)) (keeps_records call h s k) a

run : (k : Key) (calls : List Call) (h : Hour) (stood : Record k.kind) → Sound h → Agrees (unposted k.kind) stood (read k h)
    → Agrees (unposted k.kind) (last_said k calls h stood) (read k (after calls h))
run k [] h stood s a = a
run k (call ∷ calls) h stood s a =
    run k calls (hour_after call h) (now_stands (said_by k call h) stood) (lasts_left call h s).0 (agrees_after call h s k stood a)

-- from records with nothing entered
none_entered : (k : Kind) (id i areas parties resources : ℕ) → read (key k id i) (opened areas parties resources) ≡ None
none_entered OfEnergy id i areas parties resources = refl
none_entered OfTag id i areas parties resources = refl
none_entered OfElection id i areas parties resources = refl
none_entered OfTest id i areas parties resources = refl
none_entered OfTransfer id i areas parties resources = refl
none_entered OfDemand id i areas parties resources = refl
none_entered (OfGiven code) id i areas parties resources = refl

pub agrees_opened : (k : Key) (areas parties resources : ℕ) → Agrees (unposted k.kind) (unposted k.kind) (read k (opened areas parties resources))
agrees_opened k areas parties resources =
    subst (Agrees (unposted k.kind) (unposted k.kind)) (sym (none_entered k.kind k.id k.index areas parties resources)) refl

pub ends : {X : Type 0} (new stood : X) (o : Option X) → Agrees new stood o → IfSome o (λ x. x ≡ stood)
ends new stood None a = tt
ends new stood (Some x) a = a

pub last_stands : (areas parties resources : ℕ) → Sound (opened areas parties resources) → LastStands (opened areas parties resources)
last_stands areas parties resources s calls k =
    ends (unposted k.kind) _ _
    (run k calls (opened areas parties resources) (unposted k.kind) s (agrees_opened k areas parties resources))
