-- Shares put at the places of an area's parties in a column. Assumes nothing.
use Rattle.std.proofs.Common.{◌≡◌, ◌≢◌, ◌≤◌, ◌<◌, ◌+◌, ℕ, suc, true, false, cond, List, [], ◌∷◌, ◌++◌, map, length, take, drop, get_or, set, pos, refl, sym, ap, ◌∙◌, ⊎_elim, append_assoc, add-zero, arith}
use Rattle.std.proofs.lemmas.Bool.{cases_Bool, eqb-true, ne_eqb}
use Rattle.std.proofs.lemmas.List.{get_or-drop, drop_more, take_more, take_more_set, drop-set-lt, drop-drop}
use Rattle.std.specs.Prelude.{◌==◌}
use Rattle.rows.specs.declared.figures.Cents.{Cents}
use Rattle.rows.specs.declared.party.Party.{Party}
use Rattle.charges.specs.declared.claims.Claim.{Claim}
use Rattle.charges.specs.Columns.{parties_in, entries_in, cents_in}
use Rattle.charges.specs.Parts.{GivenTo}

-- a claim that stands nowhere
abbrev no_claim : Claim
no_claim = record { weight = 0; share = record { 0 = pos 0 } }

-- the column in which the shares of the claims, one after another, stand at the places of an area's parties
abbrev pub put : ℕ → List Party → List Claim → List Cents → List Cents
put area [] claims column = column
put area (p ∷ ps) claims [] = []
put area (p ∷ ps) claims (c ∷ cs) =
    cond (p.area == area) ((get_or claims 0 no_claim).share ∷ put area ps (drop 1 claims) cs) (c ∷ put area ps claims cs)

pub length-put : (area : ℕ) (ps : List Party) (claims : List Claim) (cs : List Cents) → length (put area ps claims cs) ≡ length cs
length-put area [] claims cs = refl
length-put area (p ∷ ps) claims [] = refl
length-put area (p ∷ ps) claims (c ∷ cs) =
    ⊎_elim (λ e. rw e (ap suc (length-put area ps (drop 1 claims) cs))) (λ e. rw e (ap suc (length-put area ps claims cs))) (cases_Bool (p.area == area))

pub drop-put : (area : ℕ) (ps : List Party) (claims : List Claim) (cs : List Cents) → drop (length ps) (put area ps claims cs) ≡ drop (length ps) cs
drop-put area [] claims cs = refl
drop-put area (p ∷ ps) claims [] = refl
drop-put area (p ∷ ps) claims (c ∷ cs) =
    ⊎_elim (λ e. rw e (drop-put area ps (drop 1 claims) cs)) (λ e. rw e (drop-put area ps claims cs)) (cases_Bool (p.area == area))

pub others-put : (area other : ℕ) (ps : List Party) (claims : List Claim) (cs : List Cents) → other ≢ area → entries_in other ps (put area ps claims cs) ≡ entries_in other ps cs
others-put area other [] claims cs ne = refl
others-put area other (p ∷ ps) claims [] ne = refl
others-put area other (p ∷ ps) claims (c ∷ cs) ne =
    ⊎_elim
    (λ e.
    let not' : (p.area == other) ≡ false = ne_eqb p.area other (λ s. ne (sym s ∙ eqb-true p.area area e)) in
    rw (e, not') (others-put area other ps (drop 1 claims) cs ne))
    (λ e. rw e (ap (λ l. cond (p.area == other) ((p, c) ∷ l) l) (others-put area other ps claims cs ne)))
    (cases_Bool (p.area == area))

pub own-put : (area : ℕ) (ps : List Party) (claims : List Claim) (cs : List Cents) → length ps ≤ length cs → length claims ≡ length (parties_in area ps)
    → cents_in area ps (put area ps claims cs) ≡ map (λ c. c.share.0) claims
own-put area [] [] cs room each = refl
own-put area [] (z ∷ zs) cs room each = absurd (omega arith)
own-put area (p ∷ ps) claims [] room each = absurd (omega arith)
own-put area (p ∷ ps) claims (c ∷ cs) room each =
    ⊎_elim
    (λ e. elim claims as (λ claims. length claims ≡ length (parties_in area (p ∷ ps)) → cents_in area (p ∷ ps) (put area (p ∷ ps) claims (c ∷ cs)) ≡ map (λ c. c.share.0) claims) [
      | [] ↦ λ each. absurd (let f = rw e at each in omega arith)
      | z ∷ zs ↦ λ each. let f = rw e at each in rw (e, e) (ap (λ l. z.share.0 ∷ l) (own-put area ps zs cs (omega arith) (omega arith)))
    ] each)
    (λ e. let f = rw e at each in rw (e, e) (own-put area ps claims cs (omega arith) f))
    (cases_Bool (p.area == area))

pub given-put : (area : ℕ) (ps : List Party) (claims : List Claim) (cs : List Cents) → length ps ≤ length cs → length claims ≡ length (parties_in area ps)
    → GivenTo area ps (map (λ c. c.share.0) claims) cs (put area ps claims cs)
given-put area ps claims cs room each = record {
  own = own-put area ps claims cs room each;
  others = λ other ne. others-put area other ps claims cs ne;
  behind = drop-put area ps claims cs;
  long = length-put area ps claims cs;
}

-- one party more, which is x
module _ (area : ℕ) (ps : List Party) (i : ℕ) (x : Party) (in' : i < length ps) (is : x ≡ get_or ps i x) where
  here : drop i ps ≡ x ∷ drop (i + 1) ps
  here = drop_more ps i x in' ∙ ap (λ y. y ∷ drop (i + 1) ps) (sym is)

  pub left_yes : (x.area == area) ≡ true → length (parties_in area (drop i ps)) ≡ suc (length (parties_in area (drop (i + 1) ps)))
  left_yes e = rw (here, e) refl

  pub left_no : (x.area == area) ≡ false → parties_in area (drop i ps) ≡ parties_in area (drop (i + 1) ps)
  left_no e = rw (here, e) refl

  pub put_yes : (claims : List Claim) (next : ℕ) (cs : List Cents) (v : Cents) → i < length cs → (x.area == area) ≡ true → v ≡ (get_or claims next no_claim).share
      → take i cs ++ put area (drop i ps) (drop next claims) (drop i cs) ≡ take (i + 1) (set cs i v) ++ put area (drop (i + 1) ps) (drop (next + 1) claims) (drop (i + 1) (set cs i v))
  put_yes claims next cs v room e new =
      let first : get_or (drop next claims) 0 no_claim ≡ get_or claims next no_claim = get_or-drop next claims 0 no_claim ∙ ap (λ n. get_or claims n no_claim) (add-zero next) in
      let put' : put area (drop i ps) (drop next claims) (drop i cs) ≡ v ∷ put area (drop (i + 1) ps) (drop (next + 1) claims) (drop (i + 1) cs) =
      rw (here, drop_more cs i v room, e, first, ← new, drop-drop 1 next claims) refl in
      rw (take_more_set cs i v room, drop-set-lt (i + 1) cs i v (omega arith), append_assoc) (ap (λ l. take i cs ++ l) put')

  pub put_no : (claims : List Claim) (next : ℕ) (cs : List Cents) → i < length cs → (x.area == area) ≡ false
      → take i cs ++ put area (drop i ps) (drop next claims) (drop i cs) ≡ take (i + 1) cs ++ put area (drop (i + 1) ps) (drop next claims) (drop (i + 1) cs)
  put_no claims next cs room e =
      let d : Cents = record { 0 = pos 0 } in
      let put' : put area (drop i ps) (drop next claims) (drop i cs) ≡ get_or cs i d ∷ put area (drop (i + 1) ps) (drop next claims) (drop (i + 1) cs) =
      rw (here, drop_more cs i d room, e) refl in
      rw (take_more cs i d room, append_assoc) (ap (λ l. take i cs ++ l) put')
