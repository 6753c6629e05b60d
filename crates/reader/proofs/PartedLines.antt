-- What a separator parts, of a text that comes in pieces.
use Rattle.std.proofs.Common.{◌≡◌, ◌∙◌, sym, ap, subst, ℕ, ◌==◌, if◌then◌else◌, Bool, true, false, List, [], ◌∷◌, ◌++◌, refl, eq-eqb}
use Rattle.std.proofs.lemmas.List.{append-nil}
use Rattle.words.specs.Texts.{pieces, onto}

some_pieces : (c : ℕ) (text : List ℕ) → (first : List ℕ) × (others : List (List ℕ)) × (pieces c text ≡ first ∷ others)
some_pieces c [] = ([], [], refl)
some_pieces c (b ∷ text) =
    elim (b == c) as (λ t. (first : List ℕ) × (others : List (List ℕ))
    × ((if t then [] ∷ pieces c text else onto b (pieces c text)) ≡ first ∷ others)) [
      | true ↦ ([], pieces c text, refl)
      | false ↦ let (first, others, e) = some_pieces c text in (b ∷ first, others, ap (onto b) e)
    ]

-- pieces, the last of which goes on with the first of others
abbrev joined : List (List ℕ) → List (List ℕ) → List (List ℕ)
joined [] others = others
joined (p ∷ []) [] = p ∷ []
joined (p ∷ []) (first ∷ others) = (p ++ first) ∷ others
joined (p ∷ q ∷ ps) others = p ∷ joined (q ∷ ps) others

onto_joined : (b : ℕ) (ps others : List (List ℕ)) → onto b (joined ps others) ≡ joined (onto b ps) others
onto_joined b [] [] = refl
onto_joined b [] (first ∷ others) = refl
onto_joined b (p ∷ []) [] = refl
onto_joined b (p ∷ []) (first ∷ others) = refl
onto_joined b (p ∷ q ∷ ps) others = refl

pieces_of_both : (c : ℕ) (xs ys : List ℕ) → pieces c (xs ++ ys) ≡ joined (pieces c xs) (pieces c ys)
pieces_of_both c [] ys = let (first, others, e) = some_pieces c ys in rw e refl
pieces_of_both c (b ∷ xs) ys =
    let (first, others, e) = some_pieces c xs in
    elim (b == c) as (λ t. (if t then [] ∷ pieces c (xs ++ ys) else onto b (pieces c (xs ++ ys)))
    ≡ joined (if t then [] ∷ pieces c xs else onto b (pieces c xs)) (pieces c ys)) [
      | true ↦ ap (λ l. [] ∷ l) (pieces_of_both c xs ys) ∙ rw e refl
      | false ↦ ap (onto b) (pieces_of_both c xs ys) ∙ onto_joined b (pieces c xs) (pieces c ys)
    ]

joined_last : (ended : List (List ℕ)) (begun first : List ℕ) (others : List (List ℕ))
    → joined (ended ++ begun ∷ []) (first ∷ others) ≡ ended ++ (begun ++ first) ∷ others
joined_last [] begun first others = refl
joined_last (x ∷ []) begun first others = refl
joined_last (x ∷ y ∷ ended) begun first others = ap (λ l. x ∷ l) (joined_last (y ∷ ended) begun first others)

-- what has begun goes on with the first piece of what follows
pub pieces_go_on : (c : ℕ) (xs ys : List ℕ) (ended : List (List ℕ)) (begun first : List ℕ) (others : List (List ℕ))
    → pieces c xs ≡ ended ++ begun ∷ [] → pieces c ys ≡ first ∷ others → pieces c (xs ++ ys) ≡ ended ++ (begun ++ first) ∷ others
pieces_go_on c xs ys ended begun first others e f = pieces_of_both c xs ys ∙ rw (e, f) (joined_last ended begun first others)

-- no separator stands in a first piece
pub first_whole : (c : ℕ) (text first : List ℕ) (others : List (List ℕ)) → pieces c text ≡ first ∷ others → pieces c first ≡ first ∷ []
first_whole c [] first others e = let f : [] ≡ first = cc in subst (λ x. pieces c x ≡ x ∷ []) f refl
first_whole c (b ∷ text) first others e =
    let (p, ps, q) = some_pieces c text in
    by p ps (b == c) refl (rw q at e) (first_whole c text p ps q) where
      by : (p : List ℕ) (ps : List (List ℕ)) (t : Bool) → (b == c) ≡ t
          → (if t then [] ∷ (p ∷ ps) else (b ∷ p) ∷ ps) ≡ first ∷ others → pieces c p ≡ p ∷ [] → pieces c first ≡ first ∷ []
      by p ps true is e whole = let f : [] ≡ first = cc in subst (λ x. pieces c x ≡ x ∷ []) f refl
      by p ps false is e whole = let f : b ∷ p ≡ first = cc in subst (λ x. pieces c x ≡ x ∷ []) f (rw (is, whole) refl)

-- a text that is its only piece
pub one_piece : (c : ℕ) (text line : List ℕ) → pieces c text ≡ line ∷ [] → line ≡ text
one_piece c [] line e = cc
one_piece c (b ∷ text) line e =
    let (p, ps, q) = some_pieces c text in
    by p ps (b == c) (rw q at e) (λ none. one_piece c text p (q ∙ ap (λ l. p ∷ l) none)) where
      by : (p : List ℕ) (ps : List (List ℕ)) (t : Bool) → (if t then [] ∷ (p ∷ ps) else (b ∷ p) ∷ ps) ≡ line ∷ []
          → (ps ≡ [] → p ≡ text) → line ≡ b ∷ text
      by p ps true e rest = absurd (cc)
      by p ps false e rest = let n : ps ≡ [] = cc in let f : b ∷ p ≡ line = cc in sym f ∙ ap (λ l. b ∷ l) (rest n)

pub pieces_ended : (c : ℕ) (first : List ℕ) → pieces c first ≡ first ∷ [] → pieces c (first ++ c ∷ []) ≡ first ∷ [] ∷ []
pieces_ended c first whole =
    pieces_go_on c first (c ∷ []) [] first [] ([] ∷ []) whole (rw (eq-eqb c c refl) refl) ∙ ap (λ l. l ∷ [] ∷ []) (append-nil first)
