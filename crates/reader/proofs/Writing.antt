-- What is written, one part after another. Assumes nothing.
use Rattle.std.proofs.Common.{◌≡◌, ◌∙◌, sym, ap, subst, ℕ, ◌+◌, ◌<◌, List, [], ◌∷◌, ◌++◌, length, take, get_or, codes, Option}
use Rattle.std.specs.Io.KnownBytes.{Appends}
use Rattle.std.proofs.KnownBytes.{Appends-trans}
use Rattle.std.proofs.lemmas.List.{take_more, flat_map_more}
use Rattle.statement.specs.declared.line.Line.{Line}
use Rattle.reader.specs.declared.refused.RefusedLine.{RefusedLine}
use Rattle.reader.specs.Printing.{ended, listed_text, listing_text, refused_text, refusals_text}

pub wrote_on : (a b c : Option (List ℕ)) (bs cs ds : List ℕ) → Appends a b bs → Appends b c cs → ds ≡ bs ++ cs → Appends a c ds
wrote_on a b c bs cs ds first next all = subst (Appends a c) (sym all) (Appends-trans a b c bs cs first next)

-- one line more of a listing
pub listing_more : (lines : List Line) (i : ℕ) (d : Line) → i < length lines
    → listing_text (take (i + 1) lines) ≡ listing_text (take i lines) ++ ended (listed_text (get_or lines i d))
listing_more lines i d inside =
    ap listing_text (take_more lines i d inside)
    ∙ sym (flat_map_more (λ l. ended (listed_text l)) (codes "run interval account code cents\n") (take i lines) (get_or lines i d))

-- one refused line more
pub refusals_and_one : (lines : List RefusedLine) (line : RefusedLine)
    → refusals_text (lines ++ line ∷ []) ≡ refusals_text lines ++ ended (refused_text line)
refusals_and_one lines line = sym (flat_map_more (λ l. ended (refused_text l)) [] lines line)
