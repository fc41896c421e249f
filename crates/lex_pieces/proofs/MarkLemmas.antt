-- The longest mark at the front of a text is one, and no longer mark begins there.
use Rattle.std.proofs.Common.{◌≡◌, ℕ, ◌≤◌, Bool, true, false, cond, ◌&&◌, eqb, List, [], ◌∷◌, ◌++◌, Option, Some, None, length, drop, refl, sym, ap, ◌∙◌, subst, inl, inr, ◌⊎◌, arith}
use Rattle.std.specs.Option.{option_or}
use Rattle.std.proofs.lemmas.Bool.{and_parts, eqb-true}
use Rattle.js_token.specs.declared.punct.Punct.{Punct}
use Rattle.js_token.specs.declared.punct.Punct.TheVariants.{OpenBrace, CloseBrace, OpenParen, CloseParen, OpenBracket, CloseBracket, Dot, Ellipsis, Comma, Semicolon, Colon, Question, QuestionQuestion, Arrow, Assign, StrictEqual, StrictNotEqual, LooseEqual, LooseNotEqual, LessThan, GreaterThan, LessOrEqual, GreaterOrEqual, Plus, PlusPlus, Minus, MinusMinus, Star, Slash, Percent, Bang, AndAnd, OrOr, Bar}
use Rattle.js_token.specs.Marks.{spelling}
use Rattle.lex_pieces.specs.Marks.{mark_of_one, mark_of_two, mark_of_three, with_len, longest_of_two, longest_of_three, mark_at}

-- the text is the spelling of the mark, and then what is behind so many characters
abbrev pub Spells : List ℕ → Punct → ℕ → Type 0
Spells cs p n = (cs ≡ spelling p ++ drop n cs) × (n ≡ length (spelling p))

-- one step along the tests
pick : (b : Bool) (p q : Punct) (rest : Option Punct) (P : Type 0) → cond b (Some p) rest ≡ Some q → (b ≡ true → p ≡ q → P) → (rest ≡ Some q → P) → P
pick true p q rest P h here later = here refl (cc)
pick false p q rest P h here later = later h

one : (a : ℕ) (q : Punct) → mark_of_one a ≡ Some q → a ∷ [] ≡ spelling q
one a q h0 =
    pick (eqb a 123) OpenBrace q _ (a ∷ [] ≡ spelling q) h0 (λ t same. ap (λ k. k ∷ []) (eqb-true a 123 t) ∙ ap spelling same) (λ h1.
    pick (eqb a 125) CloseBrace q _ (a ∷ [] ≡ spelling q) h1 (λ t same. ap (λ k. k ∷ []) (eqb-true a 125 t) ∙ ap spelling same) (λ h2.
    pick (eqb a 40) OpenParen q _ (a ∷ [] ≡ spelling q) h2 (λ t same. ap (λ k. k ∷ []) (eqb-true a 40 t) ∙ ap spelling same) (λ h3.
    pick (eqb a 41) CloseParen q _ (a ∷ [] ≡ spelling q) h3 (λ t same. ap (λ k. k ∷ []) (eqb-true a 41 t) ∙ ap spelling same) (λ h4.
    pick (eqb a 91) OpenBracket q _ (a ∷ [] ≡ spelling q) h4 (λ t same. ap (λ k. k ∷ []) (eqb-true a 91 t) ∙ ap spelling same) (λ h5.
    pick (eqb a 93) CloseBracket q _ (a ∷ [] ≡ spelling q) h5 (λ t same. ap (λ k. k ∷ []) (eqb-true a 93 t) ∙ ap spelling same) (λ h6.
    pick (eqb a 46) Dot q _ (a ∷ [] ≡ spelling q) h6 (λ t same. ap (λ k. k ∷ []) (eqb-true a 46 t) ∙ ap spelling same) (λ h7.
    pick (eqb a 44) Comma q _ (a ∷ [] ≡ spelling q) h7 (λ t same. ap (λ k. k ∷ []) (eqb-true a 44 t) ∙ ap spelling same) (λ h8.
    pick (eqb a 59) Semicolon q _ (a ∷ [] ≡ spelling q) h8 (λ t same. ap (λ k. k ∷ []) (eqb-true a 59 t) ∙ ap spelling same) (λ h9.
    pick (eqb a 58) Colon q _ (a ∷ [] ≡ spelling q) h9 (λ t same. ap (λ k. k ∷ []) (eqb-true a 58 t) ∙ ap spelling same) (λ h10.
    pick (eqb a 63) Question q _ (a ∷ [] ≡ spelling q) h10 (λ t same. ap (λ k. k ∷ []) (eqb-true a 63 t) ∙ ap spelling same) (λ h11.
    pick (eqb a 61) Assign q _ (a ∷ [] ≡ spelling q) h11 (λ t same. ap (λ k. k ∷ []) (eqb-true a 61 t) ∙ ap spelling same) (λ h12.
    pick (eqb a 60) LessThan q _ (a ∷ [] ≡ spelling q) h12 (λ t same. ap (λ k. k ∷ []) (eqb-true a 60 t) ∙ ap spelling same) (λ h13.
    pick (eqb a 62) GreaterThan q _ (a ∷ [] ≡ spelling q) h13 (λ t same. ap (λ k. k ∷ []) (eqb-true a 62 t) ∙ ap spelling same) (λ h14.
    pick (eqb a 43) Plus q _ (a ∷ [] ≡ spelling q) h14 (λ t same. ap (λ k. k ∷ []) (eqb-true a 43 t) ∙ ap spelling same) (λ h15.
    pick (eqb a 45) Minus q _ (a ∷ [] ≡ spelling q) h15 (λ t same. ap (λ k. k ∷ []) (eqb-true a 45 t) ∙ ap spelling same) (λ h16.
    pick (eqb a 42) Star q _ (a ∷ [] ≡ spelling q) h16 (λ t same. ap (λ k. k ∷ []) (eqb-true a 42 t) ∙ ap spelling same) (λ h17.
    pick (eqb a 47) Slash q _ (a ∷ [] ≡ spelling q) h17 (λ t same. ap (λ k. k ∷ []) (eqb-true a 47 t) ∙ ap spelling same) (λ h18.
    pick (eqb a 37) Percent q _ (a ∷ [] ≡ spelling q) h18 (λ t same. ap (λ k. k ∷ []) (eqb-true a 37 t) ∙ ap spelling same) (λ h19.
    pick (eqb a 33) Bang q _ (a ∷ [] ≡ spelling q) h19 (λ t same. ap (λ k. k ∷ []) (eqb-true a 33 t) ∙ ap spelling same) (λ h20.
    pick (eqb a 124) Bar q _ (a ∷ [] ≡ spelling q) h20 (λ t same. ap (λ k. k ∷ []) (eqb-true a 124 t) ∙ ap spelling same) (λ h21.
    cc)))))))))))))))))))))

two : (a b : ℕ) (q : Punct) → mark_of_two a b ≡ Some q → a ∷ b ∷ [] ≡ spelling q
two a b q h0 =
    pick (eqb a 63 && eqb b 63) QuestionQuestion q _ (a ∷ b ∷ [] ≡ spelling q) h0 (λ t same. pair a b 63 63 t ∙ ap spelling same) (λ h1.
    pick (eqb a 61 && eqb b 62) Arrow q _ (a ∷ b ∷ [] ≡ spelling q) h1 (λ t same. pair a b 61 62 t ∙ ap spelling same) (λ h2.
    pick (eqb a 61 && eqb b 61) LooseEqual q _ (a ∷ b ∷ [] ≡ spelling q) h2 (λ t same. pair a b 61 61 t ∙ ap spelling same) (λ h3.
    pick (eqb a 33 && eqb b 61) LooseNotEqual q _ (a ∷ b ∷ [] ≡ spelling q) h3 (λ t same. pair a b 33 61 t ∙ ap spelling same) (λ h4.
    pick (eqb a 60 && eqb b 61) LessOrEqual q _ (a ∷ b ∷ [] ≡ spelling q) h4 (λ t same. pair a b 60 61 t ∙ ap spelling same) (λ h5.
    pick (eqb a 62 && eqb b 61) GreaterOrEqual q _ (a ∷ b ∷ [] ≡ spelling q) h5 (λ t same. pair a b 62 61 t ∙ ap spelling same) (λ h6.
    pick (eqb a 43 && eqb b 43) PlusPlus q _ (a ∷ b ∷ [] ≡ spelling q) h6 (λ t same. pair a b 43 43 t ∙ ap spelling same) (λ h7.
    pick (eqb a 45 && eqb b 45) MinusMinus q _ (a ∷ b ∷ [] ≡ spelling q) h7 (λ t same. pair a b 45 45 t ∙ ap spelling same) (λ h8.
    pick (eqb a 38 && eqb b 38) AndAnd q _ (a ∷ b ∷ [] ≡ spelling q) h8 (λ t same. pair a b 38 38 t ∙ ap spelling same) (λ h9.
    pick (eqb a 124 && eqb b 124) OrOr q _ (a ∷ b ∷ [] ≡ spelling q) h9 (λ t same. pair a b 124 124 t ∙ ap spelling same) (λ h10.
    cc))))))))))
  where
    pair : (a b x y : ℕ) → (eqb a x && eqb b y) ≡ true → a ∷ b ∷ [] ≡ x ∷ y ∷ []
    pair a b x y t =
        let same_a = eqb-true a x (and_parts (eqb a x) (eqb b y) t).0 in
        let same_b = eqb-true b y (and_parts (eqb a x) (eqb b y) t).1 in
        cc

three : (a b c : ℕ) (q : Punct) → mark_of_three a b c ≡ Some q → a ∷ b ∷ c ∷ [] ≡ spelling q
three a b c q h0 =
    pick (eqb a 46 && eqb b 46 && eqb c 46) Ellipsis q _ (a ∷ b ∷ c ∷ [] ≡ spelling q) h0 (λ t same. triple a b c 46 46 46 t ∙ ap spelling same) (λ h1.
    pick (eqb a 61 && eqb b 61 && eqb c 61) StrictEqual q _ (a ∷ b ∷ c ∷ [] ≡ spelling q) h1 (λ t same. triple a b c 61 61 61 t ∙ ap spelling same) (λ h2.
    pick (eqb a 33 && eqb b 61 && eqb c 61) StrictNotEqual q _ (a ∷ b ∷ c ∷ [] ≡ spelling q) h2 (λ t same. triple a b c 33 61 61 t ∙ ap spelling same) (λ h3.
    cc)))
  where
    triple : (a b c x y z : ℕ) → (eqb a x && eqb b y && eqb c z) ≡ true → a ∷ b ∷ c ∷ [] ≡ x ∷ y ∷ z ∷ []
    triple a b c x y z t =
        let front = (and_parts (eqb a x && eqb b y) (eqb c z) t).0 in
        let same_a = eqb-true a x (and_parts (eqb a x) (eqb b y) front).0 in
        let same_b = eqb-true b y (and_parts (eqb a x) (eqb b y) front).1 in
        let same_c = eqb-true c z (and_parts (eqb a x && eqb b y) (eqb c z) t).1 in
        cc

-- a length that stands in an answer
with_some : (len : ℕ) (o : Option Punct) (q : Punct) (n : ℕ) → with_len len o ≡ Some (q, n) → (o ≡ Some q) × (n ≡ len)
with_some len None q n h = cc
with_some len (Some p) q n h =
    let same : ◌≡◌ {A = Punct × ℕ} (p, len) (q, n) = cc in
    (ap (λ (z : Punct × ℕ). Some z.0) same, sym (ap (λ (z : Punct × ℕ). z.1) same))

or_some : {A : Type 0} (x y : Option A) (z : A) → option_or x y ≡ Some z → (x ≡ Some z) ⊎ (y ≡ Some z)
or_some None y z h = inr h
or_some (Some a) y z h = inl h

sound_one : (a : ℕ) (cs : List ℕ) (q : Punct) (n : ℕ) → with_len 1 (mark_of_one a) ≡ Some (q, n) → Spells (a ∷ cs) q n
sound_one a cs q n h =
    let parts = with_some 1 (mark_of_one a) q n h in
    let text = one a q parts.0 in
    (subst (λ (k : ℕ). a ∷ cs ≡ spelling q ++ drop k (a ∷ cs)) (sym parts.1) (ap (λ s. s ++ cs) text), parts.1 ∙ ap length text)

sound_two : (a b : ℕ) (cs : List ℕ) (q : Punct) (n : ℕ) → longest_of_two a b ≡ Some (q, n) → Spells (a ∷ b ∷ cs) q n
unfolding longest_of_two
sound_two a b cs q n h =
    elim (or_some (with_len 2 (mark_of_two a b)) (with_len 1 (mark_of_one a)) (q, n) h) [
      | inl h2 ↦
          let parts = with_some 2 (mark_of_two a b) q n h2 in
          let text = two a b q parts.0 in
          (subst (λ (k : ℕ). a ∷ b ∷ cs ≡ spelling q ++ drop k (a ∷ b ∷ cs)) (sym parts.1) (ap (λ s. s ++ cs) text), parts.1 ∙ ap length text)
      | inr h1 ↦ sound_one a (b ∷ cs) q n h1
    ]

sound_three : (a b c : ℕ) (cs : List ℕ) (q : Punct) (n : ℕ) → longest_of_three a b c ≡ Some (q, n) → Spells (a ∷ b ∷ c ∷ cs) q n
unfolding longest_of_three
sound_three a b c cs q n h =
    elim (or_some (with_len 3 (mark_of_three a b c)) (longest_of_two a b) (q, n) h) [
      | inl h3 ↦
          let parts = with_some 3 (mark_of_three a b c) q n h3 in
          let text = three a b c q parts.0 in
          (subst (λ (k : ℕ). a ∷ b ∷ c ∷ cs ≡ spelling q ++ drop k (a ∷ b ∷ c ∷ cs)) (sym parts.1) (ap (λ s. s ++ cs) text), parts.1 ∙ ap length text)
      | inr h2 ↦ sound_two a b (c ∷ cs) q n h2
    ]

pub mark_sound : (cs : List ℕ) (q : Punct) (n : ℕ) → mark_at cs ≡ Some (q, n) → Spells cs q n
mark_sound [] q n h = cc
mark_sound (a ∷ []) q n h = sound_one a [] q n h
mark_sound (a ∷ b ∷ []) q n h = sound_two a b [] q n h
mark_sound (a ∷ b ∷ c ∷ cs) q n h = sound_three a b c cs q n h

-- a mark of at least this length is read
abbrev pub Finds : Option (Punct × ℕ) → ℕ → Type 0
Finds o len = (q : Punct) × (n : ℕ) × (o ≡ Some (q, n)) × (len ≤ n)

-- a longer mark is found first
longer : (o : Option Punct) (n len : ℕ) (rest : Option (Punct × ℕ)) → len ≤ n → Finds rest len → Finds (option_or (with_len n o) rest) len
longer None n len rest h found = found
longer (Some p) n len rest h found = (p, n, refl, h)

of_one : (a : ℕ) (p : Punct) (cs : List ℕ) → mark_of_one a ≡ Some p → Finds (mark_at (a ∷ cs)) 1
unfolding longest_of_two longest_of_three
of_one a p [] h = (p, 1, ap (with_len 1) h, omega arith)
of_one a p (b ∷ []) h = longer (mark_of_two a b) 2 1 _ (omega arith) (p, 1, ap (with_len 1) h, omega arith)
of_one a p (b ∷ c ∷ cs) h = longer (mark_of_three a b c) 3 1 _ (omega arith) (longer (mark_of_two a b) 2 1 _ (omega arith) (p, 1, ap (with_len 1) h, omega arith))

of_two : (a b : ℕ) (p : Punct) (cs : List ℕ) → mark_of_two a b ≡ Some p → Finds (mark_at (a ∷ b ∷ cs)) 2
unfolding longest_of_two longest_of_three
of_two a b p [] h = (p, 2, ap (λ o. option_or (with_len 2 o) (with_len 1 (mark_of_one a))) h, omega arith)
of_two a b p (c ∷ cs) h = longer (mark_of_three a b c) 3 2 _ (omega arith) (p, 2, ap (λ o. option_or (with_len 2 o) (with_len 1 (mark_of_one a))) h, omega arith)

of_three : (a b c : ℕ) (p : Punct) (cs : List ℕ) → mark_of_three a b c ≡ Some p → Finds (mark_at (a ∷ b ∷ c ∷ cs)) 3
unfolding longest_of_three
of_three a b c p cs h = (p, 3, ap (λ o. option_or (with_len 3 o) (longest_of_two a b)) h, omega arith)

pub mark_found : (p : Punct) (rest : List ℕ) → Finds (mark_at (spelling p ++ rest)) (length (spelling p))
mark_found OpenBrace rest = of_one 123 OpenBrace rest refl
mark_found CloseBrace rest = of_one 125 CloseBrace rest refl
mark_found OpenParen rest = of_one 40 OpenParen rest refl
mark_found CloseParen rest = of_one 41 CloseParen rest refl
mark_found OpenBracket rest = of_one 91 OpenBracket rest refl
mark_found CloseBracket rest = of_one 93 CloseBracket rest refl
mark_found Dot rest = of_one 46 Dot rest refl
mark_found Ellipsis rest = of_three 46 46 46 Ellipsis rest refl
mark_found Comma rest = of_one 44 Comma rest refl
mark_found Semicolon rest = of_one 59 Semicolon rest refl
mark_found Colon rest = of_one 58 Colon rest refl
mark_found Question rest = of_one 63 Question rest refl
mark_found QuestionQuestion rest = of_two 63 63 QuestionQuestion rest refl
mark_found Arrow rest = of_two 61 62 Arrow rest refl
mark_found Assign rest = of_one 61 Assign rest refl
mark_found StrictEqual rest = of_three 61 61 61 StrictEqual rest refl
mark_found StrictNotEqual rest = of_three 33 61 61 StrictNotEqual rest refl
mark_found LooseEqual rest = of_two 61 61 LooseEqual rest refl
mark_found LooseNotEqual rest = of_two 33 61 LooseNotEqual rest refl
mark_found LessThan rest = of_one 60 LessThan rest refl
mark_found GreaterThan rest = of_one 62 GreaterThan rest refl
mark_found LessOrEqual rest = of_two 60 61 LessOrEqual rest refl
mark_found GreaterOrEqual rest = of_two 62 61 GreaterOrEqual rest refl
mark_found Plus rest = of_one 43 Plus rest refl
mark_found PlusPlus rest = of_two 43 43 PlusPlus rest refl
mark_found Minus rest = of_one 45 Minus rest refl
mark_found MinusMinus rest = of_two 45 45 MinusMinus rest refl
mark_found Star rest = of_one 42 Star rest refl
mark_found Slash rest = of_one 47 Slash rest refl
mark_found Percent rest = of_one 37 Percent rest refl
mark_found Bang rest = of_one 33 Bang rest refl
mark_found AndAnd rest = of_two 38 38 AndAnd rest refl
mark_found OrOr rest = of_two 124 124 OrOr rest refl
mark_found Bar rest = of_one 124 Bar rest refl

-- a mark's spelling is read as that mark
pub mark_itself : (p : Punct) → mark_at (spelling p) ≡ Some (p, length (spelling p))
unfolding longest_of_two longest_of_three
mark_itself OpenBrace = refl
mark_itself CloseBrace = refl
mark_itself OpenParen = refl
mark_itself CloseParen = refl
mark_itself OpenBracket = refl
mark_itself CloseBracket = refl
mark_itself Dot = refl
mark_itself Ellipsis = refl
mark_itself Comma = refl
mark_itself Semicolon = refl
mark_itself Colon = refl
mark_itself Question = refl
mark_itself QuestionQuestion = refl
mark_itself Arrow = refl
mark_itself Assign = refl
mark_itself StrictEqual = refl
mark_itself StrictNotEqual = refl
mark_itself LooseEqual = refl
mark_itself LooseNotEqual = refl
mark_itself LessThan = refl
mark_itself GreaterThan = refl
mark_itself LessOrEqual = refl
mark_itself GreaterOrEqual = refl
mark_itself Plus = refl
mark_itself PlusPlus = refl
mark_itself Minus = refl
mark_itself MinusMinus = refl
mark_itself Star = refl
mark_itself Slash = refl
mark_itself Percent = refl
mark_itself Bang = refl
mark_itself AndAnd = refl
mark_itself OrOr = refl
mark_itself Bar = refl

pub spelling_same : (p q : Punct) → spelling p ≡ spelling q → p ≡ q
spelling_same p q e =
    let both = sym (mark_itself p) ∙ (ap mark_at e ∙ mark_itself q) in
    let same : ◌≡◌ {A = Punct × ℕ} (p, length (spelling p)) (q, length (spelling q)) = cc in
    ap (λ (z : Punct × ℕ). z.0) same
