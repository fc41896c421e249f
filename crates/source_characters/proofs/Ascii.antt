-- What ASCII characters are to words.
use Rattle.unicode_ident.proofs.IdentLemmas.{is_xid_start-ascii, is_xid_continue-ascii}

pub ruleset ascii_words = (is_xid_start-ascii, is_xid_continue-ascii)
