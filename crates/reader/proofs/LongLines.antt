-- A line that is too long says the same where it is cut.
use Rattle.std.proofs.Common.{◌≡◌, ◌∙◌, sym, ap, ℕ, zero, suc, Bool, true, false, List, [], ◌∷◌, ◌++◌, length, take, Option, None, Some, get_or, refl, arith}
use Rattle.std.proofs.lemmas.Bool.Decides.{nat_tests}
use Rattle.std.proofs.lemmas.List.{take_all, length-take-le}
use Rattle.words.specs.Texts.{words_of}
use Rattle.blocks.specs.declared.block.Block.{Block}
use Rattle.blocks.specs.declared.mode.Mode.{Mode}
use Rattle.blocks.specs.declared.mode.Mode.TheVariants.{Between, Skipping, Within}
use Rattle.blocks.specs.Names.{block_of}
use Rattle.blocks.specs.Headings.{is_short, headed}
use Rattle.blocks.specs.Lines.{read_filled, read_line, opened}
use Rattle.reader.specs.Feeding.{most_kept}

headed_long : (line : List ℕ) (b : Option Block) → is_short line ≡ false → headed line b ≡ None
headed_long line None long = refl
headed_long line (Some b) long = rw long refl

filled_long : (line other : List ℕ) (mode : Mode) → is_short line ≡ false → is_short other ≡ false
    → read_filled line mode ≡ read_filled other mode
filled_long line other Between l o =
    let first = λ (text : List ℕ). block_of (get_or (words_of text) 0 []) in
    ap opened (headed_long line (first line) l ∙ sym (headed_long other (first other) o))
filled_long line other Skipping l o = refl
filled_long line other (Within h) l o = rw (l, o) refl

filled_kept : (line : List ℕ) (mode : Mode) → read_filled (take most_kept line) mode ≡ read_filled line mode
filled_kept line mode = by (is_short line) refl where
  by : (t : Bool) → is_short line ≡ t → read_filled (take most_kept line) mode ≡ read_filled line mode
  by true e = ap (λ l. read_filled l mode) (take_all most_kept line (grind (arith, nat_tests)))
  by false e =
      let cut : length (take most_kept line) ≡ most_kept = length-take-le most_kept line (grind (arith, nat_tests)) in
      filled_long (take most_kept line) line mode (grind (arith, nat_tests)) e

pub line_kept : (line : List ℕ) (mode : Mode) → read_line (take most_kept line) mode ≡ read_line line mode
line_kept [] mode = refl
line_kept (b ∷ line) mode = filled_kept (b ∷ line) mode

-- what is kept of a line, with more bytes
pub kept_more : (n : ℕ) (begun bytes : List ℕ) → take n (take n begun ++ bytes) ≡ take n (begun ++ bytes)
kept_more zero begun bytes = refl
kept_more (suc n) [] bytes = refl
kept_more (suc n) (b ∷ begun) bytes = ap (λ l. b ∷ l) (kept_more n begun bytes)
