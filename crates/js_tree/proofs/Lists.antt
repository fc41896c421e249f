-- What a list in order is spelled with, before the tokens that follow.
use Rattle.std.proofs.Common.{◌≡◌, sym, ap, ◌∙◌, Bool, true, false, List, [], ◌∷◌}
use Rattle.js_token.specs.declared.token.TokenKind.{TokenKind}
use Rattle.js_grammar.specs.TypeSpelling.{Tokens, opt}

-- one after another
abbrev pub each : {A : Type 0} → (A → Tokens → Tokens) → List A → Tokens → Tokens
each f [] l = l
each f (x ∷ xs) l = f x (each f xs l)

abbrev pub has_more : {A : Type 0} → List A → Bool
has_more [] = false
has_more (x ∷ xs) = true

-- with a token between two
abbrev pub listed : {A : Type 0} → TokenKind → (A → Tokens → Tokens) → List A → Tokens → Tokens
listed mark f [] l = l
listed mark f (x ∷ xs) l = f x (opt (has_more xs) mark (listed mark f xs l))

-- A tree's list grows at its end: `from acc xs` is `acc` with the members of `xs` set behind it, in order.
module _ {A L : Type 0} (from : L → List A → L) where
  -- A list with one more member is spelled as `begun` spells those before it, and then that member.
  abbrev EndsWith : (A → Tokens → Tokens) → (L → Tokens → Tokens) → (L → Tokens → Tokens) → Type 0
  EndsWith f begun spell = (acc : L) (x : A) (l : Tokens) → spell (from acc (x ∷ [])) l ≡ begun acc (f x l)

  module _ (empty : (acc : L) → from acc [] ≡ acc) (grows : (acc : L) (x : A) (xs : List A) → from acc (x ∷ xs) ≡ from (from acc (x ∷ [])) xs) (none : L) (spell : L → Tokens → Tokens) (blank : (l : Tokens) → spell none l ≡ l) (f : A → Tokens → Tokens) where
    pub each_in_order : EndsWith f spell spell → (xs : List A) (l : Tokens) → each f xs l ≡ spell (from none xs) l
    each_in_order next xs l = sym (go none xs ∙ blank (each f xs l))
      where
        go : (acc : L) (xs : List A) → spell (from acc xs) l ≡ spell acc (each f xs l)
        go acc [] = ap (λ m. spell m l) (empty acc)
        go acc (x ∷ xs) = ap (λ m. spell m l) (grows acc x xs) ∙ go (from acc (x ∷ [])) xs ∙ next acc x (each f xs l)

    -- Here `begun` sets the mark behind each of its members.
    pub listed_in_order : (mark : TokenKind) (begun : L → Tokens → Tokens) → ((l : Tokens) → begun none l ≡ l) → EndsWith f begun spell → EndsWith (λ x l. f x (mark ∷ l)) begun begun → (xs : List A) (l : Tokens) → listed mark f xs l ≡ spell (from none xs) l
    listed_in_order mark begun bare last next [] l = sym (ap (λ m. spell m l) (empty none) ∙ blank l)
    listed_in_order mark begun bare last next (x ∷ xs) l = sym (go none x xs ∙ bare (listed mark f (x ∷ xs) l))
      where
        go : (acc : L) (x : A) (xs : List A) → spell (from acc (x ∷ xs)) l ≡ begun acc (listed mark f (x ∷ xs) l)
        go acc x [] = last acc x l
        go acc x (y ∷ ys) = ap (λ m. spell m l) (grows acc x (y ∷ ys)) ∙ go (from acc (x ∷ [])) y ys ∙ next acc x (listed mark f (y ∷ ys) l)
