-- The blocks of an input, and the names that their first lines may have. Assumes nothing.
use Rattle.std.specs.Prelude.{ℕ, List, [], ◌∷◌, Option, codes, get_or, bytes_eq, position}
use Rattle.rows.specs.Named.{kind_by_word}
use Rattle.words.specs.Texts.{words_of}
use Rattle.blocks.specs.declared.block.Block.{Block}
use Rattle.blocks.specs.declared.block.Block.TheVariants.{Area, Party, Resource, Energy, Tag, Election, Test, Transfer, Demand, Given, Settle}

-- the names of a block, its own first
abbrev pub names_text : Block → List ℕ
names_text Area = codes "area kind"
names_text Party = codes "party area"
names_text Resource = codes "resource owner kind net exempt"
names_text Energy = codes "energy interval lmp mss resprice edprice iie oa mssiie res above edqty resflag ed"
names_text Tag = codes "tag interval kw telemetry curtailed"
names_text Election = codes "election in cap up nopay"
names_text Test = codes "test quarter capacity ramp nopay"
names_text Transfer = codes "transfer interval to baseto from basefrom"
names_text Demand = codes "demand interval units"
names_text Given = codes "given interval code cents"
names_text Settle = codes "settle"

abbrev pub block_names : Block → List (List ℕ)
block_names b = words_of (names_text b)

-- the name under which a block has words; under its others it has numbers
abbrev pub word_name : Block → List ℕ
word_name Area = codes "kind"
word_name Resource = codes "kind"
word_name Energy = codes "ed"
word_name Settle = codes "settle"
word_name _ = []

abbrev pub blocks : List Block
blocks = Area ∷ Party ∷ Resource ∷ Energy ∷ Tag ∷ Election ∷ Test ∷ Transfer ∷ Demand ∷ Given ∷ Settle ∷ []

-- the name at a place of a block's names
abbrev pub name_at : Block → ℕ → List ℕ
name_at b place = get_or (block_names b) place []

-- the block that a word names
abbrev pub block_of : List ℕ → Option Block
block_of word = kind_by_word (λ b. name_at b 0) blocks word

-- the place of a name among some
abbrev pub place_among : List (List ℕ) → List ℕ → Option ℕ
place_among names name = position (λ n. bytes_eq n name) names
