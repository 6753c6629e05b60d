-- What holds along every history, call by call. It uses of the records that empty ones are sound and that calls keep them so and only
-- add ids; of the charges what an hour comes to by a rule (`HourCharged`) and, of any lawful rule, `hour_laws` and `renewed_laws`. No
-- formula, rule or rounding is opened. Assumes nothing.
use Rattle.std.proofs.Common.{◌≡◌, ◌≢◌, ℕ, ◌+◌, ◌<◌, ◌≤◌, Bool, true, not, List, [], ◌∷◌, ◌++◌, map, length, get_or, min, ℤ, pos, slice_index, None, Result, refl, sym, ap, subst, ◌∙◌, ⊎_elim, ◌==◌, eq-eqb, arith, true≢false}
use Rattle.std.proofs.lemmas.Bool.{cases_Bool, cases_lt, cases_order}
use Rattle.std.proofs.lemmas.Bool.Decides.{nat_tests}
use Rattle.std.proofs.lemmas.Int.{ints}
use Rattle.std.proofs.lemmas.List.{length-append, length-map, get_or-map}
use Rattle.std.proofs.lemmas.List.Elements.{All-nil, All-append, All-weaker}
use Rattle.sharing.specs.Laws.{Lawful}
use Rattle.tables.specs.declared.refusal.Refusal.{Refusal}
use Rattle.tables.specs.Ranges.{last_id, is_id, within}
use Rattle.tables.specs.Keyed.{Keyed}
use Rattle.tables.specs.Tables as tables
use Rattle.tables.specs.Tables.{has_room_for}
use Rattle.tables.specs.Refusals.{Fit, first_fit, state_after, reason_as}
use Rattle.tables.proofs.Fits.{state_after_either}
use Rattle.tables.proofs.Firsts.{first_fit-neither, first_fit-none_told}
use Rattle.deemed.specs.Ranges.{hour_length}
use Rattle.rows.specs.declared.party.Party.{Party}
use Rattle.rows.specs.Rows.{new_party}
use Rattle.records.specs.declared.call.Call.{Call}
use Rattle.records.specs.View.{Hour}
use Rattle.records.specs.Ranges.{most_areas, most_parties, most_resources}
use Rattle.records.specs.Hours as hours
use Rattle.records.specs.Hours.{area_id, party_id, resource_id}
use Rattle.records.specs.Calls.{reasons, made_by}
use Rattle.records.specs.Sound.{Sound, Grows}
use Rattle.records.proofs.SoundAfter.{lasts_left}
use Rattle.charges.specs.declared.amounts.HourAmounts.{HourAmounts}
use Rattle.charges.specs.declared.code.ChargeCode.{ChargeCode}
use Rattle.charges.specs.declared.fault.ChargeFault.{ChargeFault}
use Rattle.charges.specs.declared.code.ChargeCode.TheVariants.{Cc6476, Cc6477}
use Rattle.charges.specs.Faults.{hour_faults, refusal_of}
use Rattle.charges.specs.Charged.{HourCharged, HourLaws, renewed, at_index}
use Rattle.charges.proofs.Hours.{hour_laws, renewed_laws}
use Rattle.statement.specs.declared.line.Line.{Line}
use Rattle.statement.specs.declared.run.Run.{Run}
use Rattle.statement.specs.declared.statement.Statement.{Statement}
use Rattle.statement.specs.Ranges.{most_runs}
use Rattle.statement.specs.Lines.{is_surcharge, same_code, surcharge_in, other_in, come_to, new_lines, total_of, under}
use Rattle.statement.specs.Statements.{opened, ids, taken, with_records, with_run, added, settle_reasons, reasons_before_work, Settled}
use Rattle.statement.specs.Histories.{History, opening, call, settle}
use Rattle.statement.specs.Promises.{IsLine, InTurn}
use Rattle.statement.proofs.Known.{known, Apart, Reached, Behind, interval_total}
use Rattle.statement.proofs.LineTotals.{total_of-nil}
use Rattle.statement.proofs.KnownIds.{still_known, unbilled}
use Rattle.statement.proofs.AfterRun.{total_after, all_after, runs_balance}
use Rattle.statement.proofs.NewLines.{agrees_after, accounts_known}
use Rattle.statement.proofs.Turns.{pairs-append, new_in_turn, new_each, still_line, in_turn_after}
use Rattle.statement.proofs.Columns.{charged_behind, tallied_of}
use Rattle.statement.proofs.IntervalTotals.{surcharge_total, other_total, grown_total}
use Rattle.statement.proofs.Renewed.{sound_renewed}

not_id_0 : (n : ℕ) → is_id (pos n) ≡ true → n ≢ 0
not_id_0 n e same = let in' = within (pos 1) (pos last_id) (pos n) e in omega (arith, ints)

-- the ids of sound records
pub apart_ids : (b : Statement) → Sound b.records → Apart (ids b)
apart_ids b sound =
    let rows : List Party = b.records.parties.rows in
    let long : length (ids b) ≡ length rows = length-map rows party_id in
    let d : Party = new_party 0 0 in
    let at : (i : ℕ) → i < length rows → slice_index (ids b) i ≡ party_id (get_or rows i d) = λ i inside. get_or-map party_id rows i d 0 inside in
    let apart : (i j : ℕ) → i < j → j < length rows → slice_index (ids b) i ≢ slice_index (ids b) j =
    λ i j less inside same. sound.parties.distinct i j d less inside (sym (at i (omega arith)) ∙ same ∙ at j inside) in
    record {
      distinct = λ i j ii jj same.
          ⊎_elim (λ e. e)
          (⊎_elim (λ less. absurd (apart i j less (omega arith) same)) (λ more. absurd (apart j i more (omega arith) (sym same))))
          (cases_order i j);
      not_0 = λ i inside. rw (at i (omega arith)) (not_id_0 (party_id (get_or rows i d)) (sound.parties.ids i d (omega arith)));
      few = let fits = sound.parties.within_room in let bound = sound.parties.bound in omega arith;
    }

-- a table with no rows
keyed_opened : {T : Type 0} (key : T → ℕ) (full most : ℕ) → most ≤ full → Keyed key full (tables.new_table most)
keyed_opened {T} key full most bound = record {
  within_room = omega arith;
  bound = bound;
  ids = All-nil (λ x. is_id (pos (key x)) ≡ true);
  distinct = λ i j d less inside. absurd (omega arith);
}

sound_opened : (areas parties resources : ℕ) → Sound (hours.opened areas parties resources)
sound_opened areas parties resources = record {
  areas = keyed_opened area_id most_areas (min areas most_areas) (omega arith);
  parties = keyed_opened party_id most_parties (min parties most_parties) (omega arith);
  resources = keyed_opened resource_id most_resources (min resources most_resources) (omega arith);
  one_ciso = omega arith;
  single = λ id weim. omega arith;
  homes = λ i d inside. absurd (omega arith);
  owners = λ i d inside. absurd (omega arith);
  as_entered = λ i d inside. absurd (omega arith);
  undeemed = λ i d inside. absurd (omega arith);
  without_nopay = λ i d inside. absurd (omega arith);
  whole_areas = λ i d inside. absurd (omega arith);
  whole_parties = λ i d inside. absurd (omega arith);
  whole_resources = λ i d inside. absurd (omega arith);
}

-- no line and no party
empty_total : (t : ChargeCode → Bool) (place : ℕ) → interval_total t 0 (come_to [] [] place) ≡ pos 0
unfolding interval_total come_to total_of
empty_total t place = ⊎_elim (λ yes. rw yes refl) (λ no. rw no refl) (cases_Bool (t Cc6476))

-- each way to come by a statement
pub reached_opened : (areas parties resources lines : ℕ) → Reached (opened areas parties resources lines)
reached_opened areas parties resources lines = record {
  sound = sound_opened areas parties resources;
  accounts = All-nil (λ l. known [] l.account ≡ true);
  each = All-nil (IsLine 0);
  in_turn = λ i j d less inside. absurd (omega arith);
  fit = omega arith;
  bound = omega arith;
  counted = omega arith;
  balances = record { surcharges = λ run interval. total_of-nil (surcharge_in run interval); others = λ run interval. total_of-nil (other_in run interval) };
  surcharges = λ place inside. empty_total is_surcharge place;
  others = λ place inside. empty_total (λ c. not (is_surcharge c)) place;
  offset = λ place inside. total_of-nil (under Cc6477 place) ∙ sym (empty_total (λ c. same_code c Cc6477) place);
  billed = λ settled. absurd (true≢false (sym settled));
}

-- with sound records that have more ids
grown : (b : Statement) (h : Hour) → Sound h → Grows b.records h → Reached b → Reached (with_records h b)
grown b h sound grows reached =
    let more : List ℕ = grows.parties.0 in
    let are : ids (with_records h b) ≡ ids b ++ more = grows.parties.1 in
    let apart : Apart (ids b ++ more) = subst Apart are (apart_ids (with_records h b) sound) in
    let same : (t : ChargeCode → Bool) (place : ℕ)
    → interval_total t (length (ids (with_records h b))) (come_to b.lines.rows (ids (with_records h b)) place)
    ≡ interval_total t (length (ids b)) (come_to b.lines.rows (ids b) place) =
    λ t place.
    ap (λ l. interval_total t (length l) (come_to b.lines.rows l place)) are
    ∙ grown_total b.lines.rows (ids b) more apart.few place (unbilled (ids b) more apart b.lines.rows reached.accounts place) t in
    record {
      sound = sound;
      accounts = All-weaker (λ l. known (ids b) l.account ≡ true) (λ l. known (ids (with_records h b)) l.account ≡ true)
          (λ l e. rw are (still_known (ids b) more apart l.account e)) b.lines.rows reached.accounts;
      each = reached.each;
      in_turn = reached.in_turn;
      fit = reached.fit;
      bound = reached.bound;
      counted = reached.counted;
      balances = record { surcharges = reached.balances.surcharges; others = reached.balances.others };
      surcharges = λ place inside. same is_surcharge place ∙ reached.surcharges place inside;
      others = λ place inside. same (λ c. not (is_surcharge c)) place ∙ reached.others place inside;
      offset = λ place inside. reached.offset place inside ∙ sym (same (λ c. same_code c Cc6477) place);
      billed = λ settled. absurd (true≢false (sym settled));
    }

pub reached_taken : (c : Call) (b : Statement) → Reached b → Reached (taken c b)
reached_taken c b reached =
    let h : Hour = b.records in
    state_after_either Reached (first_fit (reasons c h)) b (with_records (made_by c h) b)
    (λ none.
    let lasts : Sound (made_by c h) × Grows h (made_by c h) =
    subst (λ o. Sound (state_after o (made_by c h) h) × Grows h (state_after o (made_by c h) h)) none (lasts_left c h reached.sound) in
    grown b (made_by c h) lasts.0 lasts.1 reached)
    reached

-- an accepted settle
pub reached_run : {shares : ℤ → List ℕ → List ℤ} → Lawful shares → (b : Statement) → Reached b → (a : HourAmounts)
    → first_fit (hour_faults shares b.records.areas.rows b.records.parties.rows b.records.resources.rows) ≡ None → HourCharged shares b.records a
    → b.runs ≢ most_runs → has_room_for (added a b) b.lines ≡ true → Reached (with_run shares a b)
reached_run {shares} lawful b reached a unrefused charged run_left room =
    let lines : List Line = b.lines.rows in
    let new : List Line = new_lines (b.runs + 1) lines (ids b) a in
    let apart : Apart (ids b) = apart_ids b reached.sound in
    let laws : HourLaws b.records (renewed shares b.records) a = hour_laws lawful b.records reached.sound unrefused a charged in
    let long : length (ids b) ≡ length b.records.parties.rows = length-map b.records.parties.rows party_id in
    let few : length b.records.parties.rows ≤ most_parties = let few = apart.few in omega arith in
    let behind : (place : ℕ) → place < hour_length → Behind (length (ids b)) (at_index a place) =
    λ place inside. subst (λ n. Behind n (at_index a place)) (sym long) (charged_behind (charged.intervals place inside) few) in
    let surcharges : (place : ℕ) → place < hour_length → interval_total is_surcharge (length (ids b)) (at_index a place) ≡ pos 0 =
    λ place inside. surcharge_total (length (ids b)) (at_index a place) apart.few (behind place inside) ∙ (laws.intervals place inside).surcharges_balance in
    let others : (place : ℕ) → place < hour_length → interval_total (λ c. not (is_surcharge c)) (length (ids b)) (at_index a place) ≡ pos 0 =
    λ place inside. other_total (length (ids b)) (at_index a place) apart.few (behind place inside) ∙ (laws.intervals place inside).others_balance in
    record {
      sound = sound_renewed lawful b.records reached.sound;
      accounts = All-append (λ l. known (ids b) l.account ≡ true) lines new reached.accounts (accounts_known (b.runs + 1) lines (ids b) a);
      each = All-append (IsLine (b.runs + 1)) lines new (All-weaker (IsLine b.runs) (IsLine (b.runs + 1)) (still_line b.runs) lines reached.each) (new_each b.runs lines (ids b) a apart);
      in_turn = pairs-append InTurn lines new reached.in_turn (new_in_turn b.runs lines (ids b) a apart) (in_turn_after b.runs lines (ids b) a reached.each);
      fit = let long = length-append lines new in grind (arith, nat_tests, room, long);
      bound = reached.bound;
      counted = ⊎_elim (λ less. omega arith) (λ last. absurd (run_left (let counted = reached.counted in omega arith))) (cases_lt b.runs most_runs);
      balances = record {
        surcharges = runs_balance b.runs lines (ids b) a apart is_surcharge surcharges reached.surcharges reached.balances.surcharges;
        others = runs_balance b.runs lines (ids b) a apart (λ c. not (is_surcharge c)) others reached.others reached.balances.others;
      };
      surcharges = λ place inside. total_after b.runs lines (ids b) a apart is_surcharge place inside ∙ surcharges place inside;
      others = λ place inside. total_after b.runs lines (ids b) a apart (λ c. not (is_surcharge c)) place inside ∙ others place inside;
      offset = λ place inside. all_after b.runs lines (ids b) a apart (λ c. same_code c Cc6477) place inside (reached.offset place inside);
      billed = λ settled. record {
        shares = shares;
        amounts = a;
        tallied = λ place inside.
            tallied_of (lines ++ new) (ids b) place (at_index a place) apart.few (behind place inside) (agrees_after (b.runs + 1) lines (ids b) a apart place inside);
        charged = charged.intervals;
        laws = laws.intervals;
        energies = renewed_laws lawful b.records reached.sound unrefused;
      };
    }

pub reached_settled : {shares : ℤ → List ℕ → List ℤ} → Lawful shares → (before after : Statement) (r : Result Run Refusal) → Reached before → Settled shares before after r
    → Reached after
reached_settled {shares} lawful before after r reached settled =
    subst Reached (sym settled.statement)
    (state_after_either Reached (first_fit (settle_reasons shares settled.amounts before)) before (with_run shares settled.amounts before)
    (λ none.
    let h : Hour = before.records in
    let faults : List (Fit ChargeFault) = hour_faults shares h.areas.rows h.parties.rows h.resources.rows in
    let both = first_fit-neither (reasons_before_work shares before) _ none in
    let told = first_fit-neither (_ ∷ []) (map (reason_as refusal_of) faults) both.0 in
    reached_run lawful before reached settled.amounts (first_fit-none_told refusal_of faults told.1) (settled.charged both.0)
    (λ last. let e : (before.runs == most_runs) ≡ true = eq-eqb before.runs most_runs last in absurd (let no = rw e at told.0 in cc))
    (grind (arith, both.1)))
    reached)

pub reached : (b : Statement) → History b → Reached b
reached b (opening areas parties resources lines) = reached_opened areas parties resources lines
reached b (call {b = before} c history) = reached_taken c before (reached before history)
reached b (settle {before} {after} {shares} {r} lawful settled history) = reached_settled lawful before after r (reached before history) settled
