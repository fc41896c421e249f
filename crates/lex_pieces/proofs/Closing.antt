-- The first `*/` of a text, read from the left.
use Rattle.std.proofs.Common.{◌≡◌, ℕ, ◌+◌, ◌<◌, ◌≤◌, true, false, List, [], ◌∷◌, Option, Some, None, length, get_or, drop, refl, sym, ap, ◌∙◌, arith}
use Rattle.std.specs.Option.{option_map}
use Rattle.std.proofs.lemmas.List.{drop_more, at_drop_all}
use Rattle.lex_pieces.specs.Comments.{closes, closed_len}

-- the length, with that of what was read before
abbrev pub plus : ℕ → Option ℕ → Option ℕ
plus len o = option_map (λ n. n + len) o

pub nothing_before : (text : List ℕ) → plus 0 (closed_len text) ≡ closed_len text
nothing_before text = same (closed_len text)
  where
    same : (o : Option ℕ) → plus 0 o ≡ o
    same None = refl
    same (Some n) = ap Some (omega arith)

head_closes : (len : ℕ) (text : List ℕ) → closes text ≡ true → plus len (closed_len text) ≡ Some (len + 2)
unfolding closed_len
head_closes len [] e = cc
head_closes len (c ∷ cs) e = rw e (ap Some (omega arith))

head_stays : (len c : ℕ) (cs : List ℕ) → closes (c ∷ cs) ≡ false → plus (len + 1) (closed_len cs) ≡ plus len (closed_len (c ∷ cs))
unfolding closed_len
head_stays len c cs e = rw e (later (closed_len cs))
  where
    later : (o : Option ℕ) → plus (len + 1) o ≡ plus len (option_map (λ n. n + 1) o)
    later None = refl
    later (Some n) = ap Some (omega arith)

pub closed_here : (at : ℕ) (text : List ℕ) → closes (drop at text) ≡ true → plus at (closed_len (drop at text)) ≡ Some (at + 2)
closed_here at text e = head_closes at (drop at text) e

pub not_here : (at : ℕ) (text : List ℕ) → at < length text → closes (drop at text) ≡ false →
    plus (at + 1) (closed_len (drop (at + 1) text)) ≡ plus at (closed_len (drop at text))
not_here at text l e =
    let split = drop_more text at 0 l in
    let other : closes (get_or text at 0 ∷ drop (at + 1) text) ≡ false = rw split at e in
    head_stays at (get_or text at 0) (drop (at + 1) text) other ∙ ap (λ rest. plus at (closed_len rest)) (sym split)

pub nowhere : (at : ℕ) (text : List ℕ) → length text ≤ at → plus at (closed_len (drop at text)) ≡ None
unfolding closed_len
nowhere at text h = at_drop_all (λ rest. plus at (closed_len rest)) text at h

pub ruleset closing = (nothing_before, closed_here, not_here, nowhere)
