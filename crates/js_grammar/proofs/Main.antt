-- Reading answers a type exactly where one stands, and else the place of the fault.
use Rattle.std.proofs.Common.{◌≡◌, refl, sym, ◌∙◌, ap, subst, ℕ, suc, Bool, true, false, [], ◌∷◌, ◌++◌, append_assoc, append-nil, if◌then◌else◌}
use Rattle.std.proofs.lemmas.Bool.{false≢true}
use Rattle.js_token.specs.declared.token.TokenKind.{TokenKind}
use Rattle.js_token.specs.declared.token.TokenKind.TheVariants.{Punct}
use Rattle.js_token.specs.declared.punct.Punct.TheVariants.{OpenBracket, Arrow, Bar}
use Rattle.js_grammar.specs.Words.{Bytes}
use Rattle.js_grammar.specs.Types.{Places, no_place, Ty, ty, more_pre, pre, fun, post, Base, base, paren, Params, no_param, more_param, plain, named}
use Rattle.js_grammar.specs.TypeSpelling.{Tokens, spell}
use Rattle.js_grammar.specs.Machine.{TypeWord, type_name, null_word, void_word, truth_of, array_word, other_word, type_word, Open, open_at, in_array, in_group, in_named, in_result, in_tuple, in_prop, Mode, want, want_pre, after_base, after_bracket, after_array, group_start, group_name, group_mark, closed, tuple_start, object_start, after_dots, after_sign, after_key, after_mark, Stack, Step, fault, go, done, end_mark, can_fun, start_base, finish, give, base_step, name_rest, single, closed_step, step, Outcome, faulty, whole, resume, run, read_tokens}
use Rattle.js_grammar.specs.Reads.{IsType, Begins, BeginsWithin, IsGreatest, Finds, Faults}
use Rattle.js_grammar.specs.Nesting.{no_nest, WithinLimit}
use Rattle.js_grammar.proofs.Limit.{stays_front}
use Rattle.js_grammar.proofs.Complete.{reads_spelling}
use Rattle.js_grammar.proofs.Sound.{so_far, Follows, sound}
use Rattle.js_grammar.proofs.Kept.{FitsMode, FitsStep, kept}
use Rattle.js_grammar.proofs.Viable.{Completes, viable}

abbrev is_done : Step → Bool
is_done fault = false
is_done (go k m) = false
is_done (done t) = true

abbrev is_fault : Step → Bool
is_fault fault = true
is_fault (go k m) = false
is_fault (done t) = false

-- where the tokens' end completes a type, no token is a fault
module _ (can : Bool) (i : ℕ) where
  e_give : (k : Stack) (t : Ty) (x : TokenKind) → is_done (give can i k t end_mark) ≡ true → is_fault (give can i k t x) ≡ false
  e_give [] t x e = refl
  e_give (in_array u s o ∷ k) t x e = absurd (false≢true e)
  e_give (in_group u s g ∷ k) t x e = absurd (false≢true e)
  e_give (in_named u s g a n o ∷ k) t x e = absurd (false≢true e)
  e_give (in_result u s g c ∷ k) t x e = e_give k (finish i u (fun s i g c t)) x e
  e_give (in_tuple u s g ∷ k) t x e = absurd (false≢true e)
  e_give (in_prop u s g a v y o ∷ k) t x e = absurd (false≢true e)

  e_base : (k : Stack) (u : Open) (b : Base) (bs : Places) (x : TokenKind) → is_done (base_step can i k u b bs end_mark) ≡ true → is_fault (base_step can i k u b bs x) ≡ false
  e_base k (open_at f lead m p q) b bs (Punct OpenBracket) e = refl
  e_base k (open_at f lead m p q) b bs (Punct Bar) e = refl
  e_base k (open_at f lead m p q) b bs x e = e_give k (ty f i lead (more_pre m (pre p i q (post (start_base b) i b bs)))) x e

  e_single : (k : Stack) (u : Open) (s : ℕ) (g : Params) (c : Bool) (x : TokenKind) → is_done (single can i k u s g c end_mark) ≡ true → is_fault (single can i k u s g c x) ≡ false
  e_single k u s (more_param no_param (plain t)) false x e = e_base k u (base s i (paren t)) no_place x e
  e_single k u s (more_param no_param (plain t)) true x e = absurd (false≢true e)
  e_single k u s (more_param no_param (named a d n o t)) c x e = absurd (false≢true e)
  e_single k u s (more_param (more_param g q) p) c x e = absurd (false≢true e)
  e_single k u s no_param c x e = absurd (false≢true e)

  e_arrow : (b : Bool) (k : Stack) (u : Open) (s : ℕ) (g : Params) (c : Bool) → is_done (single can i k u s g c end_mark) ≡ true → is_fault (if b then go (in_result u s g c ∷ k) want else single can i k u s g c (Punct Arrow)) ≡ false
  e_arrow true k u s g c e = refl
  e_arrow false k u s g c e = e_single k u s g c (Punct Arrow) e

  e_closed : (k : Stack) (u : Open) (s : ℕ) (g : Params) (c : Bool) (x : TokenKind) → is_done (single can i k u s g c end_mark) ≡ true → is_fault (closed_step can i k u s g c x) ≡ false
  e_closed k u s g c (Punct Arrow) e = e_arrow (can_fun can k) k u s g c e
  e_closed k u s g c x e = e_single k u s g c x e

  e_name : (w : TypeWord) (k : Stack) (u : Open) (s : ℕ) (g : Params) (a : ℕ) (n : Bytes) → is_done (name_rest can i k u s g a n w end_mark) ≡ true → ⊥
  e_name type_name k u s g a n e = absurd (false≢true e)
  e_name (array_word o) k u s g a n e = absurd (false≢true e)
  e_name null_word k u s g a n e = absurd (false≢true e)
  e_name void_word k u s g a n e = absurd (false≢true e)
  e_name (truth_of b) k u s g a n e = absurd (false≢true e)
  e_name other_word k u s g a n e = absurd (false≢true e)

  ended : (k : Stack) (m : Mode) (x : TokenKind) → is_done (step can i k m end_mark) ≡ true → is_fault (step can i k m x) ≡ false
  ended k want x e = absurd (false≢true e)
  ended k (want_pre (open_at f lead m p q)) x e = absurd (false≢true e)
  ended k (after_base u b bs) x e = e_base k u b bs x e
  ended k (after_bracket u b bs j) x e = absurd (false≢true e)
  ended k (after_array u s o) x e = absurd (false≢true e)
  ended k (group_start u s g) x e = absurd (false≢true e)
  ended k (group_name u s g a n) x e = absurd (e_name (type_word n) k u s g a n e)
  ended k (group_mark u s g a n) x e = absurd (false≢true e)
  ended k (closed u s g c) x e = e_closed k u s g c x e
  ended k (tuple_start u s g) x e = absurd (false≢true e)
  ended k (object_start u s g) x e = absurd (false≢true e)
  ended k (after_dots u s g) x e = absurd (false≢true e)
  ended k (after_sign u s g a v) x e = absurd (false≢true e)
  ended k (after_key u s g a v y) x e = absurd (false≢true e)
  ended k (after_mark u s g a v y) x e = absurd (false≢true e)

not_whole : (l : Tokens) (t : Ty) (r : Tokens) → faulty l ≡ whole t r → ⊥
not_whole l t r e = cc

whole_rest : (t t' : Ty) (x : TokenKind) (w : Tokens) → whole t (x ∷ w) ≡ whole t' [] → ⊥
whole_rest t t' x w e = cc

heads : {x y : TokenKind} {l r : Tokens} → x ∷ l ≡ y ∷ r → x ≡ y
heads e = cc

done_end : (s : Step) (t : Ty) → resume (λ k m. faulty []) s [] ≡ whole t [] → is_done s ≡ true
done_end fault t e = absurd (not_whole [] t [] e)
done_end (go k m) t e = absurd (not_whole [] t [] e)
done_end (done s) t e = refl

module _ (can : Bool) (start : ℕ) where
  -- what reading answers without a limit of nesting
  abbrev Longest : Tokens → Tokens → Type 0
  Longest q rest = (x : TokenKind) (r : Tokens) → rest ≡ x ∷ r → Begins can start (q ++ x ∷ []) → ⊥

  abbrev Answers : Tokens → Outcome → Type 0
  Answers l (whole t rest) = (q : Tokens) × (l ≡ q ++ rest) × IsType can start t × ((w : Tokens) → spell t w ≡ q ++ w) × Longest q rest
  Answers l (faulty rest) = (q : Tokens) × (l ≡ q ++ rest) × Begins can start q × Longest q rest × ((t : Ty) → IsType can start t → spell t [] ≡ q → ⊥)

  -- the state that the tokens q lead to, up to the place i
  record Reached (q : Tokens) (i : ℕ) (k : Stack) (m : Mode) : Type 0 where
    fits : FitsMode can start k m i
    spelled : (w : Tokens) → so_far k m w ≡ q ++ w
    runs : (w : Tokens) → run can start [] want (q ++ w) ≡ run can i k m w

  type_run : (t : Ty) → IsType can start t → run can start [] want (spell t []) ≡ whole t []
  type_run t h = reads_spelling can t start (h.0) (h.1) [] refl

  begins : (q : Tokens) (i : ℕ) (k : Stack) (m : Mode) → Reached q i k m → Begins can start q
  begins q i k m r = let c : Completes can start (so_far k m) = viable can start k m i (r.fits) in (c.0, c.1, c.2, c.3 ∙ r.spelled (c.2))

  ends_at : (q : Tokens) (i : ℕ) (k : Stack) (m : Mode) → Reached q i k m → (t : Ty) → IsType can start t → spell t [] ≡ q → run can i k m [] ≡ whole t []
  ends_at q i k m r t h e = sym (r.runs []) ∙ ap (run can start [] want) (append-nil q ∙ sym e) ∙ type_run t h

  past : (q : Tokens) (i : ℕ) (k : Stack) (m : Mode) → Reached q i k m → (x : TokenKind) → ((w : Tokens) (t : Ty) → run can i k m (x ∷ w) ≡ whole t [] → ⊥) → Begins can start (q ++ x ∷ []) → ⊥
  past q i k m r x never b = never (b.2) (b.0) (sym (r.runs (x ∷ b.2)) ∙ ap (run can start [] want) (sym (append_assoc q (x ∷ []) (b.2)) ∙ sym (b.3)) ∙ type_run (b.0) (b.1))

  longest_end : (q : Tokens) → Longest q []
  longest_end q x r e = absurd (let f : [] ≡ x ∷ r = e in cc)

  at_end : (q : Tokens) (i : ℕ) (k : Stack) (m : Mode) → Reached q i k m → (s : Step) → step can i k m end_mark ≡ s → Follows (so_far k m) end_mark s → FitsStep can start i s → Answers (q ++ []) (resume (λ k m. faulty []) s [])
  at_end q i k m r fault e f h = (q, refl, begins q i k m r, longest_end q, λ t j d. not_whole [] t [] (sym (ap (λ s. resume (λ k m. faulty []) s []) e) ∙ ends_at q i k m r t j d))
  at_end q i k m r (go k' m') e f h = (q, refl, begins q i k m r, longest_end q, λ t j d. not_whole [] t [] (sym (ap (λ s. resume (λ k m. faulty []) s []) e) ∙ ends_at q i k m r t j d))
  at_end q i k m r (done t) e f h = (q, refl, h.0, (λ w. f w ∙ r.spelled w), longest_end q)

  at_token : (q : Tokens) (i : ℕ) (k : Stack) (m : Mode) → Reached q i k m → (x : TokenKind) (l : Tokens) → ((q : Tokens) (i : ℕ) (k : Stack) (m : Mode) → Reached q i k m → Answers (q ++ l) (run can i k m l)) →
      (s : Step) → step can i k m x ≡ s → Follows (so_far k m) x s → FitsStep can start i s → Answers (q ++ x ∷ l) (resume (λ k m. run can (suc i) k m l) s (x ∷ l))
  at_token q i k m r x l ih fault e f h = (
    q,
    refl,
    begins q i k m r,
    (λ y w j. subst (λ z. Begins can start (q ++ z ∷ []) → ⊥) (heads j) (past q i k m r x (λ w t j. not_whole (x ∷ w) t [] (sym (ap (λ s. resume (λ k m. run can (suc i) k m w) s (x ∷ w)) e) ∙ j)))),
    λ t j d. absurd (let a : is_fault (step can i k m x) ≡ false = ended can i k m x (done_end (step can i k m end_mark) t (ends_at q i k m r t j d)) in let b : is_fault (step can i k m x) ≡ true = ap is_fault e in cc),
  )
  at_token q i k m r x l ih (go k' m') e f h =
      subst (λ z. Answers z (run can (suc i) k' m' l)) (append_assoc q (x ∷ []) l)
      (ih (q ++ x ∷ []) (suc i) k' m' (record {
        fits = h;
        spelled = λ w. f w ∙ r.spelled (x ∷ w) ∙ sym (append_assoc q (x ∷ []) w);
        runs = λ w. ap (run can start [] want) (append_assoc q (x ∷ []) w) ∙ r.runs (x ∷ w) ∙ ap (λ s. resume (λ k m. run can (suc i) k m w) s (x ∷ w)) e;
      }))
  at_token q i k m r x l ih (done t) e f h = (
    q,
    refl,
    h.0,
    (λ w. f w ∙ r.spelled w),
    (λ y w j. subst (λ z. Begins can start (q ++ z ∷ []) → ⊥) (heads j) (past q i k m r x (λ w t' j. whole_rest t t' x w (sym (ap (λ s. resume (λ k m. run can (suc i) k m w) s (x ∷ w)) e) ∙ j)))),
  )

  reads : (l q : Tokens) (i : ℕ) (k : Stack) (m : Mode) → Reached q i k m → Answers (q ++ l) (run can i k m l)
  reads [] q i k m r = at_end q i k m r (step can i k m end_mark) refl (sound can i k m end_mark) (kept can start k m i end_mark (r.fits))
  reads (x ∷ l) q i k m r = at_token q i k m r x l (reads l) (step can i k m x) refl (sound can i k m x) (kept can start k m i x (r.fits))

  all_reads : (l : Tokens) → Answers l (read_tokens can start l)
  all_reads l = reads l [] start [] want (record { fits = refl; spelled = λ w. refl; runs = λ w. refl })

-- a is within the limit, and with the next token of b it is not
abbrev pub EndsWithin : Tokens → Tokens → Type 0
EndsWithin a b = WithinLimit a × ((x : TokenKind) (r : Tokens) → b ≡ x ∷ r → WithinLimit (a ++ x ∷ []) → ⊥)

module _ (can : Bool) (start : ℕ) where
  -- what reading the tokens before the limit says of all
  abbrev pub Says : Tokens → Tokens → Outcome → Type 0
  Says a b (whole t rest) = Finds can start (a ++ b) t (rest ++ b)
  Says a b (faulty rest) = Faults can start (a ++ b) (rest ++ b)

  begins_front : (q m : Tokens) (x : TokenKind) → Begins can start (q ++ x ∷ m) → Begins can start (q ++ x ∷ [])
  begins_front q m x b = (b.0, b.1, m ++ b.2, b.3 ∙ append_assoc q (x ∷ m) (b.2) ∙ sym (append_assoc q (x ∷ []) (m ++ b.2)))

  within_front : (q m : Tokens) (x : TokenKind) → WithinLimit (q ++ x ∷ m) → WithinLimit (q ++ x ∷ [])
  within_front q m x h = stays_front (q ++ x ∷ []) m no_nest (subst WithinLimit (sym (append_assoc q (x ∷ []) m)) h)

  greatest : (a b q rest : Tokens) → EndsWithin a b → a ≡ q ++ rest → Longest can start q rest → (m n : Tokens) → rest ++ b ≡ m ++ n → BeginsWithin can start (q ++ m) → m ≡ []
  greatest a b q rest w e f [] n d h = refl
  greatest a b q [] w e f (x ∷ m) n d h = absurd (w.1 x (m ++ n) d (subst (λ q. WithinLimit (q ++ x ∷ [])) (sym (e ∙ append-nil q)) (within_front q m x (h.0))))
  greatest a b q (y ∷ rest) w e f (x ∷ m) n d h = absurd (f y rest refl (subst (λ z. Begins can start (q ++ z ∷ [])) (sym (heads d)) (begins_front q m x (h.1))))

  all_greatest : (a b q rest : Tokens) → EndsWithin a b → a ≡ q ++ rest → Begins can start q → Longest can start q rest → IsGreatest can start q (rest ++ b)
  all_greatest a b q rest w e h f = ((stays_front q rest no_nest (subst WithinLimit e (w.0)), h), greatest a b q rest w e f)

  says : (a b : Tokens) → EndsWithin a b → (o : Outcome) → Answers can start a o → Says a b o
  says a b w (whole t rest) h = (
    h.2,
    ap (λ a. a ++ b) (h.1) ∙ append_assoc (h.0) rest b ∙ sym (h.3 (rest ++ b)),
    subst (λ q. IsGreatest can start q (rest ++ b)) (sym (h.3 [] ∙ append-nil (h.0)))
        (all_greatest a b (h.0) rest w (h.1) (t, h.2, [], h.3 []) (h.4)),
  )
  says a b w (faulty rest) h = (h.0, ap (λ a. a ++ b) (h.1) ∙ append_assoc (h.0) rest b, all_greatest a b (h.0) rest w (h.1) (h.2) (h.3), h.4)

  -- what reading answers, for every list of tokens and its part within the limit
  pub reads_types : (a b : Tokens) → EndsWithin a b → Says a b (read_tokens can start a)
  reads_types a b w = says a b w (read_tokens can start a) (all_reads can start a)
