-- How far a comment reaches from the front of a text.
use Rattle.std.specs.Prelude.{ℕ, ◌+◌, Bool, false, ◌&&◌, ◌==◌, not, List, [], ◌∷◌, Option, Some, None, drop, if◌then◌else◌}
use Rattle.std.specs.List.{prefix_len}
use Rattle.std.specs.Option.{option_map}
use Rattle.lex_pieces.specs.Characters.{LF}
use Rattle.lex_pieces.specs.Escapes.{begins_with}

-- behind `//`
unfoldable pub line_len : List ℕ → ℕ
line_len cs = prefix_len (λ c. not (c == LF)) cs

-- the text begins with `*/`
abbrev pub closes : List ℕ → Bool
closes [] = false
closes (c ∷ cs) = (c == 42) && begins_with 47 cs

-- through the first `*/`
unfoldable pub closed_len : List ℕ → Option ℕ
closed_len [] = None
closed_len (c ∷ cs) = if closes (c ∷ cs) then Some 2 else option_map (λ n. n + 1) (closed_len cs)

-- a comment, where the text begins with `/`
unfoldable pub comment_len : List ℕ → Option ℕ
comment_len text = if begins_with 47 (drop 1 text) then Some (line_len (drop 2 text) + 2)
    else if begins_with 42 (drop 1 text) then option_map (λ n. n + 2) (closed_len (drop 2 text)) else None
