-- Which characters a word is made of.
use Rattle.std.specs.Prelude.{ℕ, Bool, ◌||◌, ◌==◌}
use Rattle.unicode_ident.specs.Ident.{is_xid_start, is_xid_continue}

-- `$`, `_` or XID_Start
abbrev pub starts_word : ℕ → Bool
starts_word c = (c == 36) || (c == 95) || is_xid_start c

-- `$`, `_` or XID_Continue
abbrev pub continues_word : ℕ → Bool
continues_word c = (c == 36) || (c == 95) || is_xid_continue c
