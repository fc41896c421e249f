-- How the characters of a string are read: the one at the front of a text, and how many characters are written for it.
use Rattle.std.specs.Prelude.{ℕ, ◌+◌, Bool, false, ◌&&◌, ◌||◌, ◌==◌, not, List, [], ◌∷◌, Option, Some, None, length, take, drop, if◌then◌else◌}
use Rattle.std.specs.List.{list_all, prefix_len}
use Rattle.std.specs.Char.{is_digit}
use lib.Utf8.{scalar}
use Rattle.lex_pieces.specs.Marks.{with_len}
use Rattle.lex_pieces.specs.Strings.{hex_value, named_escape, escapes_itself, starts_with_digit}

-- the text begins with this character
abbrev pub begins_with : ℕ → List ℕ → Bool
begins_with c [] = false
begins_with c (first ∷ more) = first == c

abbrev pub is_hex : ℕ → Bool
is_hex d = is_digit d 16

-- the character of this code
abbrev pub character : ℕ → Option ℕ
character code = if scalar code then Some code else None

-- the character whose code the digits spell, if they are hexadecimal and there is one
unfoldable pub hex_character : List ℕ → Option ℕ
hex_character ds = if list_all is_hex ds then character (hex_value ds) else None

-- so many hexadecimal digits at the front
unfoldable pub fixed_at : ℕ → List ℕ → Option ℕ
fixed_at n cs = if length (take n cs) == n then hex_character (take n cs) else None

-- behind `\u{`: one or more digits and `}`, and the length of all
unfoldable pub braced_at : List ℕ → Option (ℕ × ℕ)
braced_at cs = let n = prefix_len is_hex cs in
    if not (n == 0) && begins_with 125 (drop n cs) then with_len (n + 4) (hex_character (take n cs)) else None

-- behind `\u`; the length has the `\u` in it
unfoldable pub unicode_at : List ℕ → Option (ℕ × ℕ)
unicode_at cs = if begins_with 123 cs then braced_at (drop 1 cs) else with_len 6 (fixed_at 4 cs)

-- behind `\`: a character that is neither `x` nor `u`, where `next` follows
unfoldable pub simple_escape : ℕ → List ℕ → Option ℕ
simple_escape c next = if c == 48 then (if starts_with_digit next then None else Some 0)
    else if escapes_itself c then Some c else named_escape c

-- behind `\`; the length has the `\` in it
unfoldable pub escape_at : List ℕ → Option (ℕ × ℕ)
escape_at [] = None
escape_at (c ∷ cs) = if c == 120 then with_len 4 (fixed_at 2 cs)
    else if c == 117 then unicode_at cs else with_len 2 (simple_escape c cs)

-- one character between two of `quote`, and how many are written for it
unfoldable pub part_at : ℕ → List ℕ → Option (ℕ × ℕ)
part_at quote [] = None
part_at quote (c ∷ cs) = if c == 92 then escape_at cs
    else if (c == quote) || (c == 10) || (c == 13) then None else Some (c, 1)
