-- The words of the kinds. Assumes nothing.
use Rattle.std.specs.Prelude.{ℕ, Bool, true, false, List, [], ◌∷◌, Option, codes}
use Rattle.std.specs.Option.{option_map_or}
use Rattle.rows.specs.declared.kinds.AreaKind.{AreaKind}
use Rattle.rows.specs.declared.kinds.AreaKind.TheVariants.{Ciso, Weim}
use Rattle.rows.specs.declared.kinds.ResourceKind.{ResourceKind}
use Rattle.rows.specs.declared.kinds.ResourceKind.TheVariants.{Plain, StaticTie, DynamicTie}
use Rattle.rows.specs.Named.{kind_by_word}

abbrev pub area_word : AreaKind → List ℕ
area_word Ciso = codes "C"
area_word Weim = codes "W"

abbrev pub resource_word : ResourceKind → List ℕ
resource_word Plain = codes "P"
resource_word StaticTie = codes "S"
resource_word DynamicTie = codes "D"

abbrev pub area_kind : List ℕ → Option AreaKind
area_kind word = kind_by_word area_word (Ciso ∷ Weim ∷ []) word

abbrev pub resource_kind : List ℕ → Option ResourceKind
resource_kind word = kind_by_word resource_word (Plain ∷ StaticTie ∷ DynamicTie ∷ []) word

abbrev pub is_ciso : AreaKind → Bool
is_ciso Ciso = true
is_ciso Weim = false

-- whether the CISO area's kind is named
abbrev pub names_ciso : Option AreaKind → Bool
names_ciso kind = option_map_or is_ciso kind false

abbrev pub is_tie : ResourceKind → Bool
is_tie Plain = false
is_tie StaticTie = true
is_tie DynamicTie = true

abbrev pub is_dynamic : ResourceKind → Bool
is_dynamic Plain = false
is_dynamic StaticTie = false
is_dynamic DynamicTie = true
