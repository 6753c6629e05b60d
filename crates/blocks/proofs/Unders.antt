-- The values under the names of a block, with one more. Assumes nothing.
use Rattle.std.proofs.Common.{◌≡◌, refl, sym, ap, ◌∙◌, ℕ, ◌+◌, ◌-◌, ◌<◌, true, false, List, [], ◌∷◌, ◌++◌, map, length, get_or, set, replicate, Option, Some, None, ℤ, pos, ⊎_elim, arith, option_map, if◌then◌else◌}
use Rattle.std.specs.Prelude.{bytes_eq}
use Rattle.std.specs.List.{list_any}
use Rattle.std.specs.Option.{unwrap_or}
use Rattle.std.proofs.lemmas.Cmp.{nat_list_eq_equiv}
use Rattle.std.proofs.lemmas.Grind.{common_steps}
use Rattle.std.proofs.lemmas.Bool.{and_parts, or_parts, cases_Bool, false≢true}
use Rattle.std.proofs.lemmas.Bool.Decides.{nat_tests}
use Rattle.std.proofs.lemmas.List.{ext_get_or, get_or-map, length-map, length-set, set-append_left, set-get_or, get_or_append_left, replicate-append-replicate}
use Rattle.words.specs.Texts.{is_word}
use Rattle.words.specs.Numbers.{number_of}
use Rattle.blocks.specs.declared.block.Block.{Block}
use Rattle.blocks.specs.declared.values.Values.{Values}
use Rattle.blocks.specs.Names.{block_names, name_at, word_name}
use Rattle.blocks.specs.Values.{under, may_stand, values_fit, number_or_0}
use Rattle.blocks.specs.Working.{Held, Put, numbers_under, most_names}
use Rattle.blocks.proofs.Columns.{few_names}
use Rattle.blocks.proofs.Names.{IsPlace, same_names}

-- values that fit, and others behind them
pub fits_behind : (b : Block) (names more ws coming : List (List ℕ)) → values_fit b names ws ≡ true
    → values_fit b (names ++ more) (ws ++ coming) ≡ values_fit b more coming
fits_behind b [] more [] coming fit = refl
fits_behind b [] more (w ∷ ws) coming fit = absurd (false≢true fit)
fits_behind b (n ∷ names) more [] coming fit = absurd (false≢true fit)
fits_behind b (n ∷ names) more (w ∷ ws) coming fit =
    let (here, later) = and_parts (may_stand b n w) (values_fit b names ws) fit in
    rw here (fits_behind b names more ws coming later)

-- a name that heads no column has no value
pub none_under : (names ws : List (List ℕ)) (name : List ℕ) → list_any (bytes_eq name) names ≡ false
    → under names ws name ≡ None
none_under [] ws name new = refl
none_under (n ∷ names) [] name new = refl
none_under (n ∷ names) (w ∷ ws) name new =
    let (here, later) = or_parts (bytes_eq name n) (list_any (bytes_eq name) names) new in
    rw (nat_list_eq_equiv.symm n name, here) (none_under names ws name later)

-- one more value, under a name that headed no column
abbrev pub with_value : List ℕ → List ℕ → (List ℕ → Option (List ℕ)) → List ℕ → Option (List ℕ)
with_value n w value name = if bytes_eq n name then Some w else value name

pub under_more : (b : Block) (names ws : List (List ℕ)) (n w name : List ℕ)
    → values_fit b names ws ≡ true → list_any (bytes_eq n) names ≡ false
    → under (names ++ n ∷ []) (ws ++ w ∷ []) name ≡ with_value n w (under names ws) name
under_more b [] [] n w name fit new = refl
under_more b [] (v ∷ ws) n w name fit new = absurd (false≢true fit)
under_more b (m ∷ names) [] n w name fit new = absurd (false≢true fit)
under_more b (m ∷ names) (v ∷ ws) n w name fit new =
    let (here, later) = or_parts (bytes_eq n m) (list_any (bytes_eq n) names) new in
    let rest = under_more b names ws n w name (and_parts (may_stand b m v) (values_fit b names ws) fit).1 later in
    let e = nat_list_eq_equiv in
    let other : bytes_eq n name ≡ true → bytes_eq m name ≡ false = λ same. e.symm m name ∙ sym (e.congr n name m same) ∙ here in
    rw rest (⊎_elim (λ same. rw (other same, same) refl) (λ apart. rw apart refl) (cases_Bool (bytes_eq n name)))

map_one : {X Y : Type 0} (y : Y) (xs : List X) → map (λ x. y) xs ≡ replicate (length xs) y
map_one y [] = refl
map_one y (x ∷ xs) = ap (λ ys. y ∷ ys) (map_one y xs)

-- a word writes no number
word_is_no_number : (w : List ℕ) → is_word w ≡ true → number_of w ≡ None
word_is_no_number [] word = absurd (false≢true word)
word_is_no_number (c ∷ w) word = grind (arith, nat_tests)

module _ (b : Block) where
  -- the numbers under the names, and those behind them
  abbrev inner : (List ℕ → Option (List ℕ)) → List ℤ
  inner value = map (λ name. number_or_0 (value name)) (block_names b)

  abbrev behind : List ℤ
  behind = replicate (most_names - length (block_names b)) (pos 0)

  inner_at : (value : List ℕ → Option (List ℕ)) (k : ℕ) → IsPlace b k
      → get_or (inner value) k (pos 0) ≡ number_or_0 (value (name_at b k))
  inner_at value k inside = get_or-map (λ name. number_or_0 (value name)) (block_names b) k [] (pos 0) inside

  pub nothing_held : (v : Values) → v.numbers ≡ replicate most_names (pos 0) → v.word ≡ None → Held b (under [] []) v
  nothing_held v numbers word = record {
    numbers =
        let few = few_names b in
        let all : length (block_names b) + (most_names - length (block_names b)) ≡ most_names = omega arith in
        rw (map_one (pos 0) (block_names b), replicate-append-replicate, all) numbers;
    word = λ has. ap (option_map (λ w. w.now)) word;
  }

  module _ (p : ℕ) (inside : IsPlace b p) (w : List ℕ) (value more : List ℕ → Option (List ℕ))
      (is : (name : List ℕ) → more name ≡ with_value (name_at b p) w value name) where
    inner_more : inner more ≡ set (inner value) p (number_or_0 (Some w))
    inner_more =
        ext_get_or (pos 0) (inner more) (set (inner value) p (number_or_0 (Some w))) (simp (length-set, length-map))
        (λ k here. let there : IsPlace b k = rw length-map at here in
        let long : length (inner value) ≡ length (block_names b) = length-map _ _ in
        let was = inner_at value k there in
        let now = inner_at more k there in
        let same = same_names b p k inside there in
        let told = is (name_at b k) in
        grind (arith, common_steps, nat_tests))

    numbers_more : numbers_under b more ≡ set (numbers_under b value) p (number_or_0 (Some w))
    numbers_more =
        let here : p < length (inner value) = rw length-map inside in
        rw (inner_more, set-append_left (inner value) behind p (number_or_0 (Some w)) here) refl

    zero_held : (v : Values) → value (name_at b p) ≡ None → Held b value v → get_or v.numbers p (pos 0) ≡ pos 0
    zero_held v none held =
        let here : p < length (inner value) = rw length-map inside in
        let was = inner_at value p inside in
        rw (held.numbers, get_or_append_left (inner value) behind (pos 0) p here, was, none) refl

    pub held_more : (before after : Values) (done : Unit {0}) → value (name_at b p) ≡ None → Held b value before
        → Put b p w before after (Some done) → Held b more after
    held_more before after done none held put = record {
      numbers =
          let there : after.numbers ≡ set before.numbers p (number_or_0 (Some w)) = ⊎_elim
          (λ worded.
          let zero : number_or_0 (Some w) ≡ pos 0 = ap (λ o. unwrap_or o (pos 0)) (word_is_no_number w (rw worded at put.0)) in
          rw (zero, ← zero_held before none held, set-get_or) (rw worded at put.1))
          (λ numbered. rw numbered at put.1)
          (cases_Bool (bytes_eq (name_at b p) (word_name b))) in
          rw (numbers_more, ← held.numbers) there;
      word = λ has. rw (is (word_name b), ← held.word has) put.2;
    }
