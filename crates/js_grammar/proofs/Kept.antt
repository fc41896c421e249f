-- Each state that is reached holds whole trees of the grammar at their places, and can be completed.
use Rattle.std.proofs.Common.{◌≡◌, refl, ◌∙◌, ap, subst, ℕ, suc, Bool, true, false, [], ◌∷◌, if◌then◌else◌}
use Rattle.std.proofs.lemmas.Bool.{false≢true}
use Rattle.js_token.specs.Words.{is_reserved}
use Rattle.js_token.specs.declared.token.TokenKind.{TokenKind}
use Rattle.js_token.specs.declared.token.TokenKind.TheVariants.{Name, Number, Str, Punct}
use Rattle.js_token.specs.declared.punct.Punct.TheVariants.{OpenBrace, CloseBrace, OpenParen, CloseParen, OpenBracket, CloseBracket, Ellipsis, Comma, Colon, Question, Arrow, LessThan, GreaterThan, Plus, Minus, Bar}
use Rattle.js_grammar.specs.Words.{Bytes, IsName, is_type_number}
use Rattle.js_grammar.specs.Types.{Places, no_place, Sign, unsigned, Key, bare, comma, dots, Ty, Pres, pre, Core, fun, post, Base, base, Form, name, str, num, null, void, truth, array, paren, tuple, object, Params, no_param, more_param, Param, plain, named, Types, no_type, more_type, Props, no_prop, more_prop, Prop, prop, has_params, is_fun_core, has_fun}
use Rattle.js_grammar.specs.TypeFits.{bump, stop_marks, stop_brackets, stop_sign, stop, stop_barred, stop_core, stop_base, stop_form, stop_params, stop_begun, stop_param, stop_types, stop_elements, stop_props, stop_rows, stop_prop, FitsMarks, FitsBrackets, FitsKey, CommaFits, Fits, FitsBarred, FitsPre, FitsCore, FitsBase, FitsForm, FitsParams, FitsParam, FitsTypes, FitsProps, FitsProp}
use Rattle.js_grammar.specs.Machine.{TypeWord, type_name, null_word, void_word, truth_of, array_word, other_word, type_word, Open, open_at, Frame, in_array, in_group, in_named, in_result, in_tuple, in_prop, Mode, want, want_pre, after_base, after_bracket, after_array, group_start, group_name, group_mark, closed, tuple_start, object_start, after_dots, after_sign, after_key, after_mark, Stack, Step, fault, go, done, can_fun, fresh, start_base, finish, after_param, after_type, after_element, after_prop, give, base_step, word_step, pre_step, want_step, bracket_step, array_step, close_at, start_step, name_rest, name_step, mark_step, single, closed_step, tuple_step, key_step, object_step, dots_step, colon_step, marked_step, step}
use Rattle.js_grammar.proofs.Words.{IsWord, word_is}

-- where a form begins that waits in the union
abbrev pub start_open : Open → ℕ
start_open (open_at f lead m p q) = f

abbrev pub start_frame : Frame → ℕ
start_frame (in_array u s o) = start_open u
start_frame (in_group u s g) = start_open u
start_frame (in_named u s g a n o) = start_open u
start_frame (in_result u s g c) = start_open u
start_frame (in_tuple u s g) = start_open u
start_frame (in_prop u s g a v y o) = start_open u

-- The tokens of each end at the place i.
abbrev pub FitsOpen : Open → ℕ → Type 0
FitsOpen (open_at f lead m p q) i =
    FitsBarred m (bump lead f) × (p ≡ stop_barred m (bump lead f)) × FitsMarks q (stop_barred m (bump lead f)) × (i ≡ stop_marks q (stop_barred m (bump lead f)))

-- parameters with a comma behind them are a function type's
abbrev pub FitsBegun : Bool → Params → ℕ → Type 0
FitsBegun c g i = FitsParams g i × (has_params g ≡ true → c ≡ true)

-- a group that is closed: of a function type, or round one type
abbrev pub IsGroup : Bool → Params → Bool → Type 0
IsGroup c (more_param no_param (plain t)) false = Unit {0}
IsGroup c _ _ = c ≡ true

abbrev pub FitsGroup : Bool → Params → Bool → ℕ → Type 0
FitsGroup c g d i = FitsParams g i × CommaFits d (has_params g) × IsGroup c g d

abbrev pub FitsFrame : Bool → Frame → ℕ → Type 0
FitsFrame c (in_array u s o) i = FitsOpen u s × (i ≡ suc (suc s))
FitsFrame c (in_group u s g) i = FitsOpen u s × FitsBegun c g (suc s) × (i ≡ stop_begun g (suc s))
FitsFrame c (in_named u s g a n o) i = FitsOpen u s × FitsBegun c g (suc s) × (a ≡ stop_begun g (suc s)) × IsName n × (c ≡ true) × (i ≡ suc (bump o (suc a)))
FitsFrame c (in_result u s g d) i = FitsOpen u s × FitsParams g (suc s) × CommaFits d (has_params g) × (c ≡ true) × (i ≡ suc (suc (bump d (stop_params g (suc s)))))
FitsFrame c (in_tuple u s g) i = FitsOpen u s × FitsTypes g (suc s) × (i ≡ stop_elements g (suc s))
FitsFrame c (in_prop u s g a v y o) i =
    FitsOpen u s × FitsProps g (suc s) × (a ≡ stop_rows g (suc s)) × FitsKey y (stop_sign v a) × (i ≡ suc (bump o (suc (stop_sign v a))))

module _ (can : Bool) (start : ℕ) where
  abbrev pub FitsStack : Stack → ℕ → Type 0
  FitsStack [] i = i ≡ start
  FitsStack (f ∷ k) i = FitsFrame (can_fun can k) f i × FitsStack k (start_frame f)

  abbrev pub FitsMode : Stack → Mode → ℕ → Type 0
  FitsMode k want i = FitsStack k i
  FitsMode k (want_pre u) i = FitsStack k (start_open u) × FitsOpen u i
  FitsMode k (after_base u b bs) i =
      FitsStack k (start_open u) × FitsOpen u (start_base b) × FitsBase b (start_base b) × FitsBrackets bs (stop_base b (start_base b)) × (i ≡ stop_brackets bs (stop_base b (start_base b)))
  FitsMode k (after_bracket u b bs j) i =
      FitsStack k (start_open u) × FitsOpen u (start_base b) × FitsBase b (start_base b) × FitsBrackets bs (stop_base b (start_base b)) × (j ≡ stop_brackets bs (stop_base b (start_base b))) × (i ≡ suc j)
  FitsMode k (after_array u s o) i = FitsStack k (start_open u) × FitsOpen u s × (i ≡ suc s)
  FitsMode k (group_start u s g) i = FitsStack k (start_open u) × FitsOpen u s × FitsBegun (can_fun can k) g (suc s) × (i ≡ stop_begun g (suc s))
  FitsMode k (group_name u s g a n) i = FitsStack k (start_open u) × FitsOpen u s × FitsBegun (can_fun can k) g (suc s) × (a ≡ stop_begun g (suc s)) × IsName n × (i ≡ suc a)
  FitsMode k (group_mark u s g a n) i =
      FitsStack k (start_open u) × FitsOpen u s × FitsBegun (can_fun can k) g (suc s) × (a ≡ stop_begun g (suc s)) × IsName n × (can_fun can k ≡ true) × (i ≡ suc (suc a))
  FitsMode k (closed u s g c) i = FitsStack k (start_open u) × FitsOpen u s × FitsGroup (can_fun can k) g c (suc s) × (i ≡ suc (bump c (stop_params g (suc s))))
  FitsMode k (tuple_start u s g) i = FitsStack k (start_open u) × FitsOpen u s × FitsTypes g (suc s) × (i ≡ stop_elements g (suc s))
  FitsMode k (object_start u s g) i = FitsStack k (start_open u) × FitsOpen u s × FitsProps g (suc s) × (i ≡ stop_rows g (suc s))
  FitsMode k (after_dots u s g) i = FitsStack k (start_open u) × FitsOpen u s × FitsProps g (suc s) × (i ≡ suc (stop_rows g (suc s)))
  FitsMode k (after_sign u s g a v) i = FitsStack k (start_open u) × FitsOpen u s × FitsProps g (suc s) × (a ≡ stop_rows g (suc s)) × (i ≡ stop_sign v a)
  FitsMode k (after_key u s g a v y) i =
      FitsStack k (start_open u) × FitsOpen u s × FitsProps g (suc s) × (a ≡ stop_rows g (suc s)) × FitsKey y (stop_sign v a) × (i ≡ suc (stop_sign v a))
  FitsMode k (after_mark u s g a v y) i =
      FitsStack k (start_open u) × FitsOpen u s × FitsProps g (suc s) × (a ≡ stop_rows g (suc s)) × FitsKey y (stop_sign v a) × (i ≡ suc (suc (stop_sign v a)))

  -- a type that begins at a place and may stand under the stack
  abbrev pub FitsAt : Stack → Ty → ℕ → Type 0
  FitsAt k t a = Fits t a × (has_fun t ≡ true → can_fun can k ≡ true)

  abbrev pub FitsStep : ℕ → Step → Type 0
  FitsStep i fault = Unit {0}
  FitsStep i (go k m) = FitsMode k m (suc i)
  FitsStep i (done t) = FitsAt [] t start × (i ≡ stop t start)

  k_if : (b : Bool) (i : ℕ) (a : Step) → (b ≡ true → FitsStep i a) → FitsStep i (if b then a else fault)
  k_if true i a h = h refl
  k_if false i a h = tt

  -- a member of a union, behind its marks
  fits_pre : (i : ℕ) (f : ℕ) (lead : Bool) (m : Pres) (p : ℕ) (q : Places) (c : Core) (s : ℕ) → FitsOpen (open_at f lead m p q) s → FitsCore c s → i ≡ stop_core c s →
      FitsPre (pre p i q c) (stop_barred m (bump lead f))
  fits_pre i f lead m p q c s u h j = (u.1, j ∙ ap (stop_core c) (u.3), u.2, subst (FitsCore c) (u.3) h)

  fits_finish : (i : ℕ) (u : Open) (c : Core) (s : ℕ) → FitsOpen u s → FitsCore c s → i ≡ stop_core c s → Fits (finish i u c) (start_open u)
  fits_finish i (open_at f lead m p q) c s u h j = (refl, j ∙ ap (stop_core c) (u.3), (u.0, fits_pre i f lead m p q c s u h j))

  pub stop_finish : (i : ℕ) (u : Open) (c : Core) (s : ℕ) → FitsOpen u s → i ≡ stop_core c s → i ≡ stop (finish i u c) (start_open u)
  stop_finish i (open_at f lead m p q) c s u j = j ∙ ap (stop_core c) (u.3)

  may_core : (k : Stack) (i : ℕ) (u : Open) (c : Core) → (is_fun_core c ≡ true → can_fun can k ≡ true) → has_fun (finish i u c) ≡ true → can_fun can k ≡ true
  may_core k i (open_at f lead m p q) c h e = h e

  pub at_core : (k : Stack) (i : ℕ) (u : Open) (c : Core) (s : ℕ) → FitsOpen u s → FitsCore c s → i ≡ stop_core c s → (is_fun_core c ≡ true → can_fun can k ≡ true) → FitsAt k (finish i u c) (start_open u)
  at_core k i u c s h f j a = (fits_finish i u c s h f j, may_core k i u c a)

  pub fresh_open : (i : ℕ) → FitsOpen (fresh i) i
  fresh_open i = (tt, refl, tt, refl)

  -- a base that is read whole
  k_form : (i : ℕ) (k : Stack) (u : Open) (s : ℕ) (x : Form) → FitsStack k (start_open u) → FitsOpen u s → FitsForm x s → suc i ≡ stop_form x s → FitsMode k (after_base u (base s (suc i) x) no_place) (suc i)
  k_form i k u s x hk hu hx j = (hk, hu, (refl, j, hx), tt, j)

  k_after_param : (c : Bool) (i : ℕ) (k : Stack) (u : Open) (s : ℕ) (g : Params) (p : Param) → can_fun can k ≡ c → FitsStack k (start_open u) → FitsOpen u s → FitsParams (more_param g p) (suc s) →
      IsGroup (can_fun can k) (more_param g p) false → i ≡ stop_params (more_param g p) (suc s) → (x : TokenKind) → FitsStep i (after_param c k u s (more_param g p) x)
  k_after_param c i k u s g p e hk hu hp hg j (Punct CloseParen) = (hk, hu, (hp, (λ e. refl), hg), ap suc j)
  k_after_param true i k u s g p e hk hu hp hg j (Punct Comma) = (hk, hu, (hp, λ f. e), ap suc j)
  k_after_param false i k u s g p e hk hu hp hg j (Punct Comma) = tt
  k_after_param c i k u s g p e hk hu hp hg j _ = tt

  k_after_type : (i : ℕ) (k : Stack) (u : Open) (s : ℕ) (g : Types) (t : Ty) → FitsStack k (start_open u) → FitsOpen u s → FitsTypes (more_type g t) (suc s) → i ≡ stop_types (more_type g t) (suc s) →
      (x : TokenKind) → FitsStep i (after_type i k u s (more_type g t) x)
  k_after_type i k u s g t hk hu hg j (Punct CloseBracket) = k_form i k u s (tuple (more_type g t) false) hk hu (hg, λ e. absurd (false≢true e)) (ap suc j)
  k_after_type i k u s g t hk hu hg j (Punct Comma) = (hk, hu, hg, ap suc j)
  k_after_type i k u s g t hk hu hg j _ = tt

  k_after_element : (i : ℕ) (k : Stack) (u : Open) (s : ℕ) (o : Bool) (t : Ty) → FitsStack k (start_open u) → FitsOpen u s → Fits t (suc (suc s)) → i ≡ stop t (suc (suc s)) → (x : TokenKind) → FitsStep i (after_element i k u s o t x)
  k_after_element i k u s o t hk hu ht j (Punct GreaterThan) = k_form i k u s (array o t) hk hu ht (ap suc j)
  k_after_element i k u s o t hk hu ht j _ = tt

  k_after_prop : (i : ℕ) (k : Stack) (u : Open) (s : ℕ) (g : Props) (p : Prop) → FitsStack k (start_open u) → FitsOpen u s → FitsProps (more_prop g p) (suc s) → i ≡ stop_props (more_prop g p) (suc s) →
      (x : TokenKind) → FitsStep i (after_prop i k u s (more_prop g p) x)
  k_after_prop i k u s g p hk hu hg j (Punct CloseBrace) = k_form i k u s (object (more_prop g p) bare) hk hu (hg, tt) (ap suc j)
  k_after_prop i k u s g p hk hu hg j (Punct Comma) = (hk, hu, hg, ap suc j)
  k_after_prop i k u s g p hk hu hg j _ = tt

  plain_group : (c : Bool) (g : Params) (t : Ty) (i : ℕ) → FitsBegun c g i → IsGroup c (more_param g (plain t)) false
  plain_group c no_param t i h = tt
  plain_group c (more_param g p) t i h = h.1 refl

  named_group : (c : Bool) (g : Params) (a d : ℕ) (n : Bytes) (o : Bool) (t : Ty) → c ≡ true → IsGroup c (more_param g (named a d n o t)) false
  named_group c no_param a d n o t h = h
  named_group c (more_param g p) a d n o t h = h

  -- a parameter with a name, of which the type is whole
  pub fits_named : (i a : ℕ) (n : Bytes) (o : Bool) (t : Ty) (z : ℕ) → z ≡ suc (bump o (suc a)) → IsName n → Fits t z → i ≡ stop t z → FitsParam (named a i n o t) a
  fits_named i a n o t z e h ht j = (refl, j ∙ ap (stop t) e, h, subst (Fits t) e ht)

  pub fits_prop : (i a : ℕ) (v : Sign) (y : Key) (o : Bool) (t : Ty) (z : ℕ) → z ≡ suc (bump o (suc (stop_sign v a))) → FitsKey y (stop_sign v a) → Fits t z → i ≡ stop t z → FitsProp (prop a i v y o t) a
  fits_prop i a v y o t z e h ht j = (refl, j ∙ ap (stop t) e, h, subst (Fits t) e ht)

  pub fits_fun : (i s : ℕ) (g : Params) (c : Bool) (t : Ty) (z : ℕ) → z ≡ suc (suc (bump c (stop_params g (suc s)))) → FitsParams g (suc s) → CommaFits c (has_params g) → Fits t z → i ≡ stop t z → FitsCore (fun s i g c t) s
  fits_fun i s g c t z e hg hc ht j = (refl, j ∙ ap (stop t) e, hg, hc, subst (Fits t) e ht)

  k_give : (k : Stack) (t : Ty) (a i : ℕ) → FitsStack k a → FitsAt k t a → i ≡ stop t a → (x : TokenKind) → FitsStep i (give can i k t x)
  k_give [] t a i h f j x = ((subst (Fits t) h (f.0), f.1), j ∙ ap (stop t) h)
  k_give (in_array u s o ∷ k) t a i h f j x = k_after_element i k u s o t (h.1) (h.0.0) (subst (Fits t) (h.0.1) (f.0)) (j ∙ ap (stop t) (h.0.1)) x
  k_give (in_group u s g ∷ k) t a i h f j x =
      k_after_param (can_fun can k) i k u s g (plain t) refl (h.1) (h.0.0) (h.0.1.0, subst (Fits t) (h.0.2) (f.0)) (plain_group (can_fun can k) g t (suc s) (h.0.1)) (j ∙ ap (stop t) (h.0.2)) x
  k_give (in_named u s g b n o ∷ k) t a i h f j x =
      let p : FitsParam (named b i n o t) b = fits_named i b n o t a (h.0.5) (h.0.3) (f.0) j in
      k_after_param (can_fun can k) i k u s g (named b i n o t) refl (h.1) (h.0.0) (h.0.1.0, subst (FitsParam (named b i n o t)) (h.0.2) p) (named_group (can_fun can k) g b i n o t (h.0.4))
      (p.1 ∙ ap (stop_param (named b i n o t)) (h.0.2)) x
  k_give (in_result u s g c ∷ k) t a i h f j x =
      let d : FitsCore (fun s i g c t) s = fits_fun i s g c t a (h.0.4) (h.0.1) (h.0.2) (f.0) j in
      k_give k (finish i u (fun s i g c t)) (start_open u) i (h.1) (at_core k i u (fun s i g c t) s (h.0.0) d (d.1) (λ e. h.0.3)) (stop_finish i u (fun s i g c t) s (h.0.0) (d.1)) x
  k_give (in_tuple u s g ∷ k) t a i h f j x = k_after_type i k u s g t (h.1) (h.0.0) (h.0.1, subst (Fits t) (h.0.2) (f.0)) (j ∙ ap (stop t) (h.0.2)) x
  k_give (in_prop u s g b v y o ∷ k) t a i h f j x =
      let p : FitsProp (prop b i v y o t) b = fits_prop i b v y o t a (h.0.4) (h.0.3) (f.0) j in
      k_after_prop i k u s g (prop b i v y o t) (h.1) (h.0.0) (h.0.1, subst (FitsProp (prop b i v y o t)) (h.0.2) p) (p.1 ∙ ap (stop_prop (prop b i v y o t)) (h.0.2)) x

  k_base : (i : ℕ) (k : Stack) (u : Open) (b : Base) (bs : Places) → FitsStack k (start_open u) → FitsOpen u (start_base b) → FitsBase b (start_base b) → FitsBrackets bs (stop_base b (start_base b)) →
      i ≡ stop_brackets bs (stop_base b (start_base b)) → (x : TokenKind) → FitsStep i (base_step can i k u b bs x)
  k_base i k u b bs hk hu hb hbs j (Punct OpenBracket) = (hk, hu, hb, hbs, j, refl)
  k_base i k (open_at f lead m p q) b bs hk hu hb hbs j (Punct Bar) =
      let c = post (start_base b) i b bs in
      let h : FitsPre (pre p i q c) (stop_barred m (bump lead f)) = fits_pre i f lead m p q c (start_base b) hu (refl, j, hb, hbs) j in
      (hk, ((hu.0, h, refl), ap suc (h.1), tt, ap suc (h.1)))
  k_base i k (open_at f lead m p q) b bs hk hu hb hbs j x =
      let c = post (start_base b) i b bs in
      k_give k (finish i (open_at f lead m p q) c) f i hk (at_core k i (open_at f lead m p q) c (start_base b) hu (refl, j, hb, hbs) j (λ e. absurd (false≢true e))) (stop_finish i (open_at f lead m p q) c (start_base b) hu j) x

  k_word : (i : ℕ) (k : Stack) (u : Open) (n : Bytes) (w : TypeWord) → IsWord w n → FitsStack k (start_open u) → FitsOpen u i → FitsStep i (word_step i k u n w)
  k_word i k u n type_name h hk hu = k_form i k u i (name n) hk hu h refl
  k_word i k u n null_word h hk hu = k_form i k u i null hk hu tt refl
  k_word i k u n void_word h hk hu = k_form i k u i void hk hu tt refl
  k_word i k u n (truth_of b) h hk hu = k_form i k u i (truth b) hk hu tt refl
  k_word i k u n (array_word o) h hk hu = (hk, hu, refl)
  k_word i k u n other_word h hk hu = tt

  k_pre : (i : ℕ) (k : Stack) (u : Open) → FitsStack k (start_open u) → FitsOpen u i → (x : TokenKind) → FitsStep i (pre_step i k u x)
  k_pre i k (open_at f lead m p q) hk hu (Punct Question) = (hk, (hu.0, hu.1, (hu.2, hu.3), ap suc (hu.3)))
  k_pre i k (open_at f lead m p q) hk hu (Name n) = k_word i k (open_at f lead m p q) n (type_word n) (word_is n) hk hu
  k_pre i k (open_at f lead m p q) hk hu (Str n) = k_form i k (open_at f lead m p q) i (str n) hk hu tt refl
  k_pre i k (open_at f lead m p q) hk hu (Number n) =
      k_if (is_type_number n) i (go k (after_base (open_at f lead m p q) (base i (suc i) (num n)) no_place)) (λ e. k_form i k (open_at f lead m p q) i (num n) hk hu e refl)
  k_pre i k (open_at f lead m p q) hk hu (Punct OpenParen) = (hk, hu, (tt, λ e. absurd (false≢true e)), refl)
  k_pre i k (open_at f lead m p q) hk hu (Punct OpenBracket) = (hk, hu, tt, refl)
  k_pre i k (open_at f lead m p q) hk hu (Punct OpenBrace) = (hk, hu, tt, refl)
  k_pre i k (open_at f lead m p q) hk hu (Punct _) = tt

  k_want : (i : ℕ) (k : Stack) → FitsStack k i → (x : TokenKind) → FitsStep i (want_step i k x)
  k_want i k hk (Punct Bar) = (hk, (tt, refl, tt, refl))
  k_want i k hk x = k_pre i k (fresh i) hk (fresh_open i) x

  k_single : (i : ℕ) (k : Stack) (u : Open) (s : ℕ) (g : Params) (c : Bool) → FitsStack k (start_open u) → FitsOpen u s → FitsParams g (suc s) → i ≡ suc (bump c (stop_params g (suc s))) → (x : TokenKind) → FitsStep i (single can i k u s g c x)
  k_single i k u s (more_param no_param (plain t)) false hk hu hg j x = k_base i k u (base s i (paren t)) no_place hk hu (refl, j, hg.1) tt j x
  k_single i k u s (more_param no_param (plain t)) true hk hu hg j x = tt
  k_single i k u s (more_param no_param (named a d n o t)) c hk hu hg j x = tt
  k_single i k u s (more_param (more_param g q) p) c hk hu hg j x = tt
  k_single i k u s no_param c hk hu hg j x = tt

  k_arrow : (b : Bool) (i : ℕ) (k : Stack) (u : Open) (s : ℕ) (g : Params) (c : Bool) → can_fun can k ≡ b → FitsStack k (start_open u) → FitsOpen u s → FitsParams g (suc s) → CommaFits c (has_params g) →
      i ≡ suc (bump c (stop_params g (suc s))) → FitsStep i (if b then go (in_result u s g c ∷ k) want else single can i k u s g c (Punct Arrow))
  k_arrow true i k u s g c e hk hu hg hc j = ((hu, hg, hc, e, ap suc j), hk)
  k_arrow false i k u s g c e hk hu hg hc j = k_single i k u s g c hk hu hg j (Punct Arrow)

  k_closed : (i : ℕ) (k : Stack) (u : Open) (s : ℕ) (g : Params) (c : Bool) → FitsStack k (start_open u) → FitsOpen u s → FitsParams g (suc s) → CommaFits c (has_params g) →
      i ≡ suc (bump c (stop_params g (suc s))) → (x : TokenKind) → FitsStep i (closed_step can i k u s g c x)
  k_closed i k u s g c hk hu hg hc j (Punct Arrow) = k_arrow (can_fun can k) i k u s g c refl hk hu hg hc j
  k_closed i k u s g c hk hu hg hc j x = k_single i k u s g c hk hu hg j x

  comma_group : (c : Bool) (g : Params) (p : Param) → c ≡ true → IsGroup c (more_param g p) true
  comma_group c no_param (plain t) h = h
  comma_group c no_param (named a d n o t) h = h
  comma_group c (more_param g q) p h = h

  k_close_at : (b : Bool) (i : ℕ) (k : Stack) (u : Open) (s : ℕ) (g : Params) → can_fun can k ≡ b → FitsStack k (start_open u) → FitsOpen u s → FitsBegun (can_fun can k) g (suc s) → i ≡ stop_begun g (suc s) → FitsStep i (close_at b k u s g)
  k_close_at true i k u s no_param e hk hu hg j = (hk, hu, (tt, (λ e. absurd (false≢true e)), e), ap suc j)
  k_close_at false i k u s no_param e hk hu hg j = tt
  k_close_at b i k u s (more_param g p) e hk hu hg j = (hk, hu, (hg.0, (λ e. refl), comma_group (can_fun can k) g p (hg.1 refl)), ap suc j)

  k_name_start : (b : Bool) (i : ℕ) (k : Stack) (u : Open) (s : ℕ) (g : Params) (n : Bytes) → is_reserved n ≡ b → FitsStack k (start_open u) → FitsOpen u s → FitsBegun (can_fun can k) g (suc s) → i ≡ stop_begun g (suc s) →
      FitsStep i (if b then want_step i (in_group u s g ∷ k) (Name n) else go k (group_name u s g i n))
  k_name_start true i k u s g n e hk hu hg j = k_want i (in_group u s g ∷ k) ((hu, hg, j), hk) (Name n)
  k_name_start false i k u s g n e hk hu hg j = (hk, hu, hg, j, e, refl)

  k_start : (i : ℕ) (k : Stack) (u : Open) (s : ℕ) (g : Params) → FitsStack k (start_open u) → FitsOpen u s → FitsBegun (can_fun can k) g (suc s) → i ≡ stop_begun g (suc s) → (x : TokenKind) → FitsStep i (start_step can i k u s g x)
  k_start i k u s g hk hu hg j (Punct CloseParen) = k_close_at (can_fun can k) i k u s g refl hk hu hg j
  k_start i k u s g hk hu hg j (Name n) = k_name_start (is_reserved n) i k u s g n refl hk hu hg j
  k_start i k u s g hk hu hg j x = k_want i (in_group u s g ∷ k) ((hu, hg, j), hk) x

  k_array : (i : ℕ) (k : Stack) (u : Open) (s : ℕ) (o : Bool) → FitsStack k (start_open u) → FitsOpen u s → i ≡ suc s → (x : TokenKind) → FitsStep i (array_step k u s o x)
  k_array i k u s o hk hu j (Punct LessThan) = ((hu, ap suc j), hk)
  k_array i k u s o hk hu j _ = tt

  k_name_rest : (i : ℕ) (k : Stack) (u : Open) (s : ℕ) (g : Params) (a : ℕ) (n : Bytes) (w : TypeWord) → IsWord w n → FitsStack k (start_open u) → FitsOpen u s → FitsBegun (can_fun can k) g (suc s) → a ≡ stop_begun g (suc s) → i ≡ suc a →
      (x : TokenKind) → FitsStep i (name_rest can i k u s g a n w x)
  k_name_rest i k u s g a n type_name h hk hu hg e j x = k_base i (in_group u s g ∷ k) (fresh a) (base a i (name n)) no_place ((hu, hg, e), hk) (fresh_open a) (refl, j, h) tt j x
  k_name_rest i k u s g a n (array_word o) h hk hu hg e j x = k_array i (in_group u s g ∷ k) (fresh a) a o ((hu, hg, e), hk) (fresh_open a) j x
  k_name_rest i k u s g a n null_word h hk hu hg e j x = tt
  k_name_rest i k u s g a n void_word h hk hu hg e j x = tt
  k_name_rest i k u s g a n (truth_of b) h hk hu hg e j x = tt
  k_name_rest i k u s g a n other_word h hk hu hg e j x = tt

  k_name : (i : ℕ) (k : Stack) (u : Open) (s : ℕ) (g : Params) (a : ℕ) (n : Bytes) → IsName n → FitsStack k (start_open u) → FitsOpen u s → FitsBegun (can_fun can k) g (suc s) → a ≡ stop_begun g (suc s) → i ≡ suc a →
      (x : TokenKind) → FitsStep i (name_step can i k u s g a n x)
  k_name i k u s g a n r hk hu hg e j (Punct Question) = k_if (can_fun can k) i (go k (group_mark u s g a n)) (λ c. (hk, hu, hg, e, r, c, ap suc j))
  k_name i k u s g a n r hk hu hg e j (Punct Colon) = k_if (can_fun can k) i (go (in_named u s g a n false ∷ k) want) (λ c. ((hu, hg, e, r, c, ap suc j), hk))
  k_name i k u s g a n r hk hu hg e j x = k_name_rest i k u s g a n (type_word n) (word_is n) hk hu hg e j x

  k_mark : (i : ℕ) (k : Stack) (u : Open) (s : ℕ) (g : Params) (a : ℕ) (n : Bytes) → IsName n → FitsStack k (start_open u) → FitsOpen u s → FitsBegun (can_fun can k) g (suc s) → a ≡ stop_begun g (suc s) → can_fun can k ≡ true → i ≡ suc (suc a) →
      (x : TokenKind) → FitsStep i (mark_step k u s g a n x)
  k_mark i k u s g a n r hk hu hg e c j (Punct Colon) = ((hu, hg, e, r, c, ap suc j), hk)
  k_mark i k u s g a n r hk hu hg e c j _ = tt

  k_bracket : (i : ℕ) (k : Stack) (u : Open) (b : Base) (bs : Places) (j : ℕ) → FitsMode k (after_bracket u b bs j) i → (x : TokenKind) → FitsStep i (bracket_step k u b bs j x)
  k_bracket i k u b bs j h (Punct CloseBracket) = (h.0, h.1, h.2, (h.3, h.4), ap suc (h.5 ∙ ap suc (h.4)))
  k_bracket i k u b bs j h _ = tt

  k_tuple : (i : ℕ) (k : Stack) (u : Open) (s : ℕ) (g : Types) → FitsStack k (start_open u) → FitsOpen u s → FitsTypes g (suc s) → i ≡ stop_elements g (suc s) → (x : TokenKind) → FitsStep i (tuple_step i k u s g x)
  k_tuple i k u s no_type hk hu hg j (Punct CloseBracket) = k_form i k u s (tuple no_type false) hk hu (hg, λ e. e) (ap suc j)
  k_tuple i k u s (more_type g t) hk hu hg j (Punct CloseBracket) = k_form i k u s (tuple (more_type g t) true) hk hu (hg, λ e. e) (ap suc j)
  k_tuple i k u s g hk hu hg j x = k_want i (in_tuple u s g ∷ k) ((hu, hg, j), hk) x

  k_key : (i : ℕ) (k : Stack) (u : Open) (s : ℕ) (g : Props) (a : ℕ) (v : Sign) → FitsStack k (start_open u) → FitsOpen u s → FitsProps g (suc s) → a ≡ stop_rows g (suc s) → i ≡ stop_sign v a → (x : TokenKind) → FitsStep i (key_step i k u s g a v x)
  k_key i k u s g a v hk hu hg e j (Name n) = (hk, hu, hg, e, (j, ap suc j), ap suc j)
  k_key i k u s g a v hk hu hg e j (Str n) = (hk, hu, hg, e, (j, ap suc j), ap suc j)
  k_key i k u s g a v hk hu hg e j _ = tt

  k_object : (i : ℕ) (k : Stack) (u : Open) (s : ℕ) (g : Props) → FitsStack k (start_open u) → FitsOpen u s → FitsProps g (suc s) → i ≡ stop_rows g (suc s) → (x : TokenKind) → FitsStep i (object_step i k u s g x)
  k_object i k u s no_prop hk hu hg j (Punct CloseBrace) = k_form i k u s (object no_prop bare) hk hu (hg, tt) (ap suc j)
  k_object i k u s (more_prop g p) hk hu hg j (Punct CloseBrace) = k_form i k u s (object (more_prop g p) comma) hk hu (hg, refl) (ap suc j)
  k_object i k u s g hk hu hg j (Punct Ellipsis) = (hk, hu, hg, ap suc j)
  k_object i k u s g hk hu hg j (Punct Plus) = (hk, hu, hg, j, refl)
  k_object i k u s g hk hu hg j (Punct Minus) = (hk, hu, hg, j, refl)
  k_object i k u s g hk hu hg j x = k_key i k u s g i unsigned hk hu hg j refl x

  k_dots : (i : ℕ) (k : Stack) (u : Open) (s : ℕ) (g : Props) → FitsStack k (start_open u) → FitsOpen u s → FitsProps g (suc s) → i ≡ suc (stop_rows g (suc s)) → (x : TokenKind) → FitsStep i (dots_step i k u s g x)
  k_dots i k u s g hk hu hg j (Punct CloseBrace) = k_form i k u s (object g dots) hk hu (hg, tt) (ap suc j)
  k_dots i k u s g hk hu hg j _ = tt

  k_colon : (i : ℕ) (k : Stack) (u : Open) (s : ℕ) (g : Props) (a : ℕ) (v : Sign) (y : Key) → FitsMode k (after_key u s g a v y) i → (x : TokenKind) → FitsStep i (colon_step k u s g a v y x)
  k_colon i k u s g a v y h (Punct Question) = (h.0, h.1, h.2, h.3, h.4, ap suc (h.5))
  k_colon i k u s g a v y h (Punct Colon) = ((h.1, h.2, h.3, h.4, ap suc (h.5)), h.0)
  k_colon i k u s g a v y h _ = tt

  k_marked : (i : ℕ) (k : Stack) (u : Open) (s : ℕ) (g : Props) (a : ℕ) (v : Sign) (y : Key) → FitsMode k (after_mark u s g a v y) i → (x : TokenKind) → FitsStep i (marked_step k u s g a v y x)
  k_marked i k u s g a v y h (Punct Colon) = ((h.1, h.2, h.3, h.4, ap suc (h.5)), h.0)
  k_marked i k u s g a v y h _ = tt

  pub kept : (k : Stack) (m : Mode) (i : ℕ) (x : TokenKind) → FitsMode k m i → FitsStep i (step can i k m x)
  kept k want i x h = k_want i k h x
  kept k (want_pre u) i x h = k_pre i k u (h.0) (h.1) x
  kept k (after_base u b bs) i x h = k_base i k u b bs (h.0) (h.1) (h.2) (h.3) (h.4) x
  kept k (after_bracket u b bs j) i x h = k_bracket i k u b bs j h x
  kept k (after_array u s o) i x h = k_array i k u s o (h.0) (h.1) (h.2) x
  kept k (group_start u s g) i x h = k_start i k u s g (h.0) (h.1) (h.2) (h.3) x
  kept k (group_name u s g a n) i x h = k_name i k u s g a n (h.4) (h.0) (h.1) (h.2) (h.3) (h.5) x
  kept k (group_mark u s g a n) i x h = k_mark i k u s g a n (h.4) (h.0) (h.1) (h.2) (h.3) (h.5) (h.6) x
  kept k (closed u s g c) i x h = k_closed i k u s g c (h.0) (h.1) (h.2.0) (h.2.1) (h.3) x
  kept k (tuple_start u s g) i x h = k_tuple i k u s g (h.0) (h.1) (h.2) (h.3) x
  kept k (object_start u s g) i x h = k_object i k u s g (h.0) (h.1) (h.2) (h.3) x
  kept k (after_dots u s g) i x h = k_dots i k u s g (h.0) (h.1) (h.2) (h.3) x
  kept k (after_sign u s g a v) i x h = k_key i k u s g a v (h.0) (h.1) (h.2) (h.3) (h.4) x
  kept k (after_key u s g a v y) i x h = k_colon i k u s g a v y h x
  kept k (after_mark u s g a v y) i x h = k_marked i k u s g a v y h x
