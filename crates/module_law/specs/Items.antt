-- The law of spelling for the items of a module.
use Rattle.std.specs.Prelude.{◌≡◌, ℕ}
use Rattle.js_grammar.specs.TypeSpelling.{Tokens}
use Rattle.js_grammar.specs.Items.{Item, spell_item, FitsItem}

-- two items that begin at one place, and stand in front of one list of tokens, are equal: no token goes on an item
abbrev pub SameFrontSameItem : Type 0
SameFrontSameItem = (i : ℕ) (a b : Item) → FitsItem a i → FitsItem b i → (m n : Tokens) → spell_item a m ≡ spell_item b n → a ≡ b
