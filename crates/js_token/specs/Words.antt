-- The reserved words, and the numbers that are whole.
use Rattle.std.specs.Prelude.{ℕ, Bool, false, ◌==◌, if◌then◌else◌, List, [], ◌∷◌, length, filter, codes}
use Rattle.std.specs.List.{list_any, list_all}
use Rattle.std.specs.Char.{is_ascii_digit}
use Rattle.std.specs.Str.{bytes_eq}

-- every word that is no name
abbrev pub reserved_words : List (List ℕ)
reserved_words =
    codes "await" ∷ codes "break" ∷ codes "case" ∷ codes "catch" ∷ codes "class" ∷ codes "const" ∷
    codes "continue" ∷ codes "debugger" ∷ codes "default" ∷ codes "delete" ∷ codes "do" ∷
    codes "else" ∷ codes "enum" ∷ codes "export" ∷ codes "extends" ∷ codes "false" ∷
    codes "finally" ∷ codes "for" ∷ codes "function" ∷ codes "if" ∷ codes "implements" ∷
    codes "import" ∷ codes "in" ∷ codes "instanceof" ∷ codes "interface" ∷ codes "let" ∷
    codes "new" ∷ codes "null" ∷ codes "package" ∷ codes "private" ∷ codes "protected" ∷
    codes "public" ∷ codes "return" ∷ codes "static" ∷ codes "super" ∷ codes "switch" ∷
    codes "this" ∷ codes "throw" ∷ codes "true" ∷ codes "try" ∷ codes "typeof" ∷ codes "var" ∷
    codes "void" ∷ codes "while" ∷ codes "with" ∷ codes "yield" ∷ []

abbrev pub is_reserved : List ℕ → Bool
is_reserved word = list_any (bytes_eq word) reserved_words

-- those of this length
abbrev pub reserved_of : ℕ → List (List ℕ)
reserved_of n = filter (λ word. length word == n) reserved_words

-- `0`, or digits of which the first is not `0`
abbrev pub is_whole : List ℕ → Bool
is_whole [] = false
is_whole (d ∷ ds) = if d == 48 then length ds == 0 else list_all is_ascii_digit (d ∷ ds)
