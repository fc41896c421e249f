-- Each state that is reached can be completed: some tokens make a type of what is written.
use Rattle.std.proofs.Common.{◌≡◌, refl, sym, ◌∙◌, ap, subst, ℕ, suc, Bool, true, false, [], ◌∷◌, if◌then◌else◌}
use Rattle.std.specs.Prelude.{codes}
use Rattle.std.proofs.lemmas.Bool.{false≢true}
use Rattle.js_token.specs.Words.{is_reserved}
use Rattle.std.specs.Str.{bytes_eq}
use Rattle.js_token.specs.declared.token.TokenKind.TheVariants.{Name, Str, Punct}
use Rattle.js_token.specs.declared.punct.Punct.TheVariants.{OpenBrace, CloseBrace, OpenParen, CloseParen, CloseBracket, Ellipsis, Colon, Arrow, LessThan, GreaterThan}
use Rattle.js_grammar.specs.Words.{Bytes, array_name, IsName}
use Rattle.js_grammar.specs.Types.{no_place, more_place, text_key, key, bare, dots, Ty, ty, no_pre, more_pre, pre, Core, fun, post, Base, base, Form, name, null, array, paren, tuple, object, Params, no_param, more_param, plain, named, more_type, Props, more_prop, prop, has_params, is_fun_core}
use Rattle.js_grammar.specs.TypeSpelling.{Tokens, spell, spell_core, spell_form, spell_begun, spell_rows}
use Rattle.js_grammar.specs.TypeFits.{bump, stop_sign, stop, stop_core, stop_form, stop_params, stop_begun, CommaFits, Fits, FitsCore, FitsForm, FitsParams, FitsParam, FitsProps, FitsProp}
use Rattle.js_grammar.specs.Machine.{TypeWord, reserved_word, type_name, null_word, void_word, truth_of, array_word, other_word, type_word, Open, open_at, Frame, in_array, in_group, in_named, in_result, in_tuple, in_prop, Mode, want, want_pre, after_base, after_bracket, after_array, group_start, group_name, group_mark, closed, tuple_start, object_start, after_dots, after_sign, after_key, after_mark, Stack, can_fun, fresh, start_base, finish}
use Rattle.js_grammar.proofs.Words.{IsWord, word_is}
use Rattle.js_grammar.proofs.Sound.{spell_open, spell_frame, spell_stack, so_far}
use Rattle.js_grammar.proofs.Kept.{start_open, start_frame, FitsOpen, FitsBegun, FitsGroup, FitsFrame, FitsStack, FitsMode, FitsAt, at_core, fits_fun, fits_named, fits_prop, fresh_open}

abbrev null_base : ℕ → Base
null_base i = base i (suc i) null

-- the type `null` at a place
abbrev null_at : ℕ → Ty
null_at i = ty i (suc i) false (more_pre no_pre (pre i (suc i) no_place (post i (suc i) (null_base i) no_place)))

null_fits : (i : ℕ) → Fits (null_at i) i
null_fits i = (refl, refl, (tt, (refl, refl, tt, (refl, refl, (refl, refl, tt), tt))))

-- a name is no other reserved word
not_other : (n : Bytes) → IsName n → type_word n ≡ other_word → ⊥
not_other n r e = by (is_reserved n) (bytes_eq n (array_name false)) (bytes_eq n (array_name true)) r e
  where
    by : (b c d : Bool) → b ≡ false → (if b then reserved_word n else if c then array_word false else if d then array_word true else type_name) ≡ other_word → ⊥
    by true c d r e = cc
    by false true d r e = let f : array_word false ≡ other_word = e in cc
    by false false true r e = let f : array_word true ≡ other_word = e in cc
    by false false false r e = let f : type_name ≡ other_word = e in cc

-- a base without brackets
abbrev lone : ℕ → ℕ → Form → Core
lone s j x = post s j (base s j x) no_place

module _ (can : Bool) (start : ℕ) where
  -- some tokens complete what is written before them
  abbrev pub Completes : (Tokens → Tokens) → Type 0
  Completes s = (t : Ty) × FitsAt can start [] t start × (w : Tokens) × (spell t [] ≡ s w)

  extend : (s r : Tokens → Tokens) (f : Tokens → Tokens) → ((l : Tokens) → s l ≡ r (f l)) → Completes s → Completes r
  extend s r f h c = (c.0, c.1, f (c.2), c.3 ∙ h (c.2))

  fits_lone : (s j : ℕ) (x : Form) → FitsForm x s → j ≡ stop_form x s → FitsCore (lone s j x) s
  fits_lone s j x h e = (refl, e, (refl, e, h), tt)

  at_lone : (k : Stack) (u : Open) (s : ℕ) (x : Form) → FitsOpen u s → FitsForm x s → FitsAt can start k (finish (stop_form x s) u (lone s (stop_form x s) x)) (start_open u)
  at_lone k u s x hu hx = at_core can start k (stop_form x s) u (lone s (stop_form x s) x) s hu (fits_lone s (stop_form x s) x hx refl) refl (λ e. absurd (false≢true e))

  -- a function type with result `null`
  abbrev null_fun : ℕ → Params → Bool → Core
  null_fun s g c = fun s (suc (suc (suc (bump c (stop_params g (suc s)))))) g c (null_at (suc (suc (bump c (stop_params g (suc s))))))

  null_fun_fits : (s : ℕ) (g : Params) (c : Bool) → FitsParams g (suc s) → CommaFits c (has_params g) → FitsCore (null_fun s g c) s
  null_fun_fits s g c hg hc = (refl, refl, hg, hc, null_fits (suc (suc (bump c (stop_params g (suc s))))))

  at_null_fun : (k : Stack) (u : Open) (s : ℕ) (g : Params) (c : Bool) → FitsOpen u s → FitsParams g (suc s) → CommaFits c (has_params g) → can_fun can k ≡ true →
      FitsAt can start k (finish (stop_core (null_fun s g c) s) u (null_fun s g c)) (start_open u)
  at_null_fun k u s g c hu hg hc e = at_core can start k (stop_core (null_fun s g c) s) u (null_fun s g c) s hu (null_fun_fits s g c hg hc) refl (λ _. e)

  spell_finish : (i : ℕ) (u : Open) (c : Core) (l : Tokens) → spell (finish i u c) l ≡ spell_open u (spell_core c l)
  spell_finish i (open_at f lead m p q) c l = refl

  -- the union under the stack is finished by its core
  closes : (k : Stack) (i : ℕ) (u : Open) (c : Core) (r : Tokens → Tokens) (f : Tokens → Tokens) → ((l : Tokens) → spell_stack k (spell_open u (spell_core c l)) ≡ r (f l)) →
      Completes (λ l. spell_stack k (spell (finish i u c) l)) → Completes r
  closes k i u c r f h = extend (λ l. spell_stack k (spell (finish i u c) l)) r f (λ l. ap (spell_stack k) (spell_finish i u c l) ∙ h l)

  v_stack : (k : Stack) (t : Ty) (a : ℕ) → FitsStack can start k a → FitsAt can start k t a → Completes (λ l. spell_stack k (spell t l))
  v_stack [] t a h f = (t, (subst (Fits t) h (f.0), f.1), [], refl)
  v_stack (in_array u s o ∷ k) t a h f =
      let x = array o t in
      closes k (stop_form x s) u (lone s (stop_form x s) x) _ (λ l. Punct GreaterThan ∷ l) (λ l. refl)
      (v_stack k (finish (stop_form x s) u (lone s (stop_form x s) x)) (start_open u) (h.1) (at_lone k u s x (h.0.0) (subst (Fits t) (h.0.1) (f.0))))
  v_stack (in_group u s no_param ∷ k) t a h f =
      let x = paren t in
      closes k (stop_form x s) u (lone s (stop_form x s) x) _ (λ l. Punct CloseParen ∷ l) (λ l. refl)
      (v_stack k (finish (stop_form x s) u (lone s (stop_form x s) x)) (start_open u) (h.1) (at_lone k u s x (h.0.0) (subst (Fits t) (h.0.2) (f.0))))
  v_stack (in_group u s (more_param g p) ∷ k) t a h f =
      let c = null_fun s (more_param (more_param g p) (plain t)) false in
      closes k (stop_core c s) u c _ (λ l. Punct CloseParen ∷ Punct Arrow ∷ Name (codes "null") ∷ l) (λ l. refl)
      (v_stack k (finish (stop_core c s) u c) (start_open u) (h.1)
      (at_null_fun k u s (more_param (more_param g p) (plain t)) false (h.0.0) (h.0.1.0, subst (Fits t) (h.0.2) (f.0)) (λ e. refl) (h.0.1.1 refl)))
  v_stack (in_named u s g b n o ∷ k) t a h f =
      let y = named b (stop t a) n o t in
      let c = null_fun s (more_param g y) false in
      closes k (stop_core c s) u c _ (λ l. Punct CloseParen ∷ Punct Arrow ∷ Name (codes "null") ∷ l) (λ l. refl)
      (v_stack k (finish (stop_core c s) u c) (start_open u) (h.1)
      (at_null_fun k u s (more_param g y) false (h.0.0) (h.0.1.0, subst (FitsParam y) (h.0.2) (fits_named can start (stop t a) b n o t a (h.0.5) (h.0.3) (f.0) refl)) (λ e. refl) (h.0.4)))
  v_stack (in_result u s g d ∷ k) t a h f =
      let c = fun s (stop t a) g d t in
      let w : FitsCore c s = fits_fun can start (stop t a) s g d t a (h.0.4) (h.0.1) (h.0.2) (f.0) refl in
      closes k (stop t a) u c _ (λ l. l) (λ l. refl)
      (v_stack k (finish (stop t a) u c) (start_open u) (h.1) (at_core can start k (stop t a) u c s (h.0.0) w (w.1) (λ e. h.0.3)))
  v_stack (in_tuple u s g ∷ k) t a h f =
      let x = tuple (more_type g t) false in
      closes k (stop_form x s) u (lone s (stop_form x s) x) _ (λ l. Punct CloseBracket ∷ l) (λ l. refl)
      (v_stack k (finish (stop_form x s) u (lone s (stop_form x s) x)) (start_open u) (h.1) (at_lone k u s x (h.0.0) ((h.0.1, subst (Fits t) (h.0.2) (f.0)), λ e. refl)))
  v_stack (in_prop u s g b v y o ∷ k) t a h f =
      let r = prop b (stop t a) v y o t in
      let x = object (more_prop g r) bare in
      closes k (stop_form x s) u (lone s (stop_form x s) x) _ (λ l. Punct CloseBrace ∷ l) (λ l. refl)
      (v_stack k (finish (stop_form x s) u (lone s (stop_form x s) x)) (start_open u) (h.1)
      (at_lone k u s x (h.0.0) ((h.0.1, subst (FitsProp r) (h.0.2) (fits_prop can start (stop t a) b v y o t a (h.0.4) (h.0.3) (f.0) refl)), tt)))

  v_core : (k : Stack) (i : ℕ) (u : Open) (c : Core) (s : ℕ) → FitsStack can start k (start_open u) → FitsOpen u s → FitsCore c s → i ≡ stop_core c s → (is_fun_core c ≡ true → can_fun can k ≡ true) →
      Completes (λ l. spell_stack k (spell_open u (spell_core c l)))
  v_core k i u c s hk hu hc j m = closes k i u c _ (λ l. l) (λ l. refl) (v_stack k (finish i u c) (start_open u) hk (at_core can start k i u c s hu hc j m))

  v_form : (k : Stack) (u : Open) (s : ℕ) (x : Form) → FitsStack can start k (start_open u) → FitsOpen u s → FitsForm x s → Completes (λ l. spell_stack k (spell_open u (spell_form x l)))
  v_form k u s x hk hu hx = v_core k (stop_form x s) u (lone s (stop_form x s) x) s hk hu (fits_lone s (stop_form x s) x hx refl) refl (λ e. absurd (false≢true e))

  v_fun : (k : Stack) (u : Open) (s : ℕ) (g : Params) (c : Bool) → FitsStack can start k (start_open u) → FitsOpen u s → FitsParams g (suc s) → CommaFits c (has_params g) → can_fun can k ≡ true → Completes (so_far k (closed u s g c))
  v_fun k u s g c hk hu hg hc e =
      extend _ (so_far k (closed u s g c)) (λ l. Punct Arrow ∷ Name (codes "null") ∷ l) (λ l. refl)
      (v_core k (stop_core (null_fun s g c) s) u (null_fun s g c) s hk hu (null_fun_fits s g c hg hc) refl (λ _. e))

  -- a closed group: parameters where a function type may stand, else one type
  v_closed : (k : Stack) (u : Open) (s : ℕ) (g : Params) (c : Bool) → FitsStack can start k (start_open u) → FitsOpen u s → FitsGroup (can_fun can k) g c (suc s) → Completes (so_far k (closed u s g c))
  v_closed k u s (more_param no_param (plain t)) false hk hu h = extend _ (so_far k (closed u s (more_param no_param (plain t)) false)) (λ l. l) (λ l. refl) (v_form k u s (paren t) hk hu (h.0.1))
  v_closed k u s (more_param no_param (plain t)) true hk hu h = v_fun k u s (more_param no_param (plain t)) true hk hu (h.0) (h.1) (h.2)
  v_closed k u s (more_param no_param (named a d n o t)) c hk hu h = v_fun k u s (more_param no_param (named a d n o t)) c hk hu (h.0) (h.1) (h.2)
  v_closed k u s (more_param (more_param g q) p) c hk hu h = v_fun k u s (more_param (more_param g q) p) c hk hu (h.0) (h.1) (h.2)
  v_closed k u s no_param c hk hu h = v_fun k u s no_param c hk hu (h.0) (h.1) (h.2)

  -- a form that waits for a type gets `null`
  v_in : (k : Stack) (f : Frame) (i : ℕ) → FitsFrame (can_fun can k) f i → FitsStack can start k (start_frame f) → Completes (λ l. spell_stack k (spell_frame f l))
  v_in k f i h hk = extend _ (λ l. spell_stack k (spell_frame f l)) (λ l. Name (codes "null") ∷ l) (λ l. refl) (v_stack (f ∷ k) (null_at i) i (h, hk) (null_fits i, λ e. refl))

  -- a name in a group: a type, whatever the name
  v_name : (w : TypeWord) (k : Stack) (u : Open) (s : ℕ) (g : Params) (a : ℕ) (n : Bytes) → IsWord w n → type_word n ≡ w → IsName n → FitsStack can start k (start_open u) → FitsOpen u s → FitsBegun (can_fun can k) g (suc s) → a ≡ stop_begun g (suc s) →
      Completes (λ l. spell_stack k (spell_open u (Punct OpenParen ∷ spell_begun g (Name n ∷ l))))
  v_name type_name k u s g a n h e r hk hu hg j = v_form (in_group u s g ∷ k) (fresh a) a (name n) ((hu, hg, j), hk) (fresh_open can start a) h
  v_name (array_word o) k u s g a n h e r hk hu hg j =
      extend _ (λ l. spell_stack k (spell_open u (Punct OpenParen ∷ spell_begun g (Name n ∷ l)))) (λ l. Punct LessThan ∷ l)
      (λ l. ap (λ n. spell_stack k (spell_open u (Punct OpenParen ∷ spell_begun g (Name n ∷ Punct LessThan ∷ l)))) (sym h))
      (v_in (in_group u s g ∷ k) (in_array (fresh a) a o) (suc (suc a)) (fresh_open can start a, refl) ((hu, hg, j), hk))
  v_name null_word k u s g a n h e r hk hu hg j = absurd (false≢true (sym r ∙ ap is_reserved h))
  v_name void_word k u s g a n h e r hk hu hg j = absurd (false≢true (sym r ∙ ap is_reserved h))
  v_name (truth_of true) k u s g a n h e r hk hu hg j = absurd (false≢true (sym r ∙ ap is_reserved h))
  v_name (truth_of false) k u s g a n h e r hk hu hg j = absurd (false≢true (sym r ∙ ap is_reserved h))
  v_name other_word k u s g a n h e r hk hu hg j = absurd (not_other n r e)

  v_object : (k : Stack) (u : Open) (s : ℕ) (g : Props) → FitsStack can start k (start_open u) → FitsOpen u s → FitsProps g (suc s) → Completes (λ l. spell_stack k (spell_open u (Punct OpenBrace ∷ spell_rows g l)))
  v_object k u s g hk hu hg = extend _ (λ l. spell_stack k (spell_open u (Punct OpenBrace ∷ spell_rows g l))) (λ l. Punct Ellipsis ∷ Punct CloseBrace ∷ l) (λ l. refl) (v_form k u s (object g dots) hk hu (hg, tt))

  pub viable : (k : Stack) (m : Mode) (i : ℕ) → FitsMode can start k m i → Completes (so_far k m)
  viable k want i h = extend _ (so_far k want) (λ l. Name (codes "null") ∷ l) (λ l. refl) (v_stack k (null_at i) i h (null_fits i, λ e. absurd (false≢true e)))
  viable k (want_pre u) i h = extend _ (so_far k (want_pre u)) (λ l. Name (codes "null") ∷ l) (λ l. refl) (v_form k u i null (h.0) (h.1) tt)
  viable k (after_base u b bs) i h = v_core k i u (post (start_base b) i b bs) (start_base b) (h.0) (h.1) (refl, h.4, h.2, h.3) (h.4) (λ e. absurd (false≢true e))
  viable k (after_bracket u b bs j) i h =
      extend _ (so_far k (after_bracket u b bs j)) (λ l. Punct CloseBracket ∷ l) (λ l. refl)
      (v_core k (suc (suc j)) u (post (start_base b) (suc (suc j)) b (more_place bs j)) (start_base b) (h.0) (h.1)
      (refl, ap (λ j. suc (suc j)) (h.4), h.2, (h.3, h.4)) (ap (λ j. suc (suc j)) (h.4)) (λ e. absurd (false≢true e)))
  viable k (after_array u s o) i h = extend _ (so_far k (after_array u s o)) (λ l. Punct LessThan ∷ l) (λ l. refl) (v_in k (in_array u s o) (suc (suc s)) (h.1, refl) (h.0))
  viable k (group_start u s g) i h = v_in k (in_group u s g) i (h.1, h.2, h.3) (h.0)
  viable k (group_name u s g a n) i h = v_name (type_word n) k u s g a n (word_is n) refl (h.4) (h.0) (h.1) (h.2) (h.3)
  viable k (group_mark u s g a n) i h =
      extend _ (so_far k (group_mark u s g a n)) (λ l. Punct Colon ∷ l) (λ l. refl) (v_in k (in_named u s g a n true) (suc (suc (suc a))) (h.1, h.2, h.3, h.4, h.5, refl) (h.0))
  viable k (closed u s g c) i h = v_closed k u s g c (h.0) (h.1) (h.2)
  viable k (tuple_start u s g) i h = v_in k (in_tuple u s g) i (h.1, h.2, h.3) (h.0)
  viable k (object_start u s g) i h = v_object k u s g (h.0) (h.1) (h.2)
  viable k (after_dots u s g) i h = extend _ (so_far k (after_dots u s g)) (λ l. Punct CloseBrace ∷ l) (λ l. refl) (v_form k u s (object g dots) (h.0) (h.1) (h.2, tt))
  viable k (after_sign u s g a v) i h =
      extend _ (so_far k (after_sign u s g a v)) (λ l. Str [] ∷ Punct Colon ∷ l) (λ l. refl)
      (v_in k (in_prop u s g a v (key (stop_sign v a) (suc (stop_sign v a)) (text_key [])) false) (suc (suc (stop_sign v a))) (h.1, h.2, h.3, (refl, refl), refl) (h.0))
  viable k (after_key u s g a v y) i h = extend _ (so_far k (after_key u s g a v y)) (λ l. Punct Colon ∷ l) (λ l. refl) (v_in k (in_prop u s g a v y false) (suc (suc (stop_sign v a))) (h.1, h.2, h.3, h.4, refl) (h.0))
  viable k (after_mark u s g a v y) i h = extend _ (so_far k (after_mark u s g a v y)) (λ l. Punct Colon ∷ l) (λ l. refl) (v_in k (in_prop u s g a v y true) (suc (suc (suc (stop_sign v a)))) (h.1, h.2, h.3, h.4, refl) (h.0))
