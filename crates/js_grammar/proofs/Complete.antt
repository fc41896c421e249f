-- Each tree's spelling is read as that tree, where a token follows that can't go on it.
use Rattle.std.proofs.Common.{◌≡◌, refl, sym, ◌∙◌, ap, ap₂, ℕ, suc, Bool, true, false, [], ◌∷◌, if◌then◌else◌}
use Rattle.std.proofs.lemmas.Bool.{false≢true}
use Rattle.js_token.specs.declared.token.TokenKind.{TokenKind}
use Rattle.js_token.specs.declared.token.TokenKind.TheVariants.{Name, Number, Punct}
use Rattle.js_token.specs.declared.punct.Punct.TheVariants.{CloseBrace, CloseParen, OpenBracket, CloseBracket, Ellipsis, Comma, Colon, Question, Arrow, GreaterThan, Bar}
use Rattle.js_grammar.specs.Words.{Bytes, IsName, IsTypeName, is_type_number}
use Rattle.js_grammar.specs.Types.{Places, no_place, more_place, Sign, unsigned, plus, minus, word_key, text_key, Key, key, bare, comma, dots, Ty, ty, Pres, no_pre, more_pre, Pre, pre, Core, fun, post, Base, base, Form, name, str, num, null, void, truth, array, paren, tuple, object, Params, no_param, more_param, Param, plain, named, Types, no_type, more_type, Props, no_prop, more_prop, Prop, prop, has_params, has_props, is_fun_core, is_fun_pre, has_fun}
use Rattle.js_grammar.specs.TypeSpelling.{Tokens, opt, marks, brackets, spell_sign, spell_key, spell, spell_barred, spell_pre, spell_core, spell_base, spell_form, spell_params, spell_begun, spell_param, spell_elements, spell_rows, spell_prop}
use Rattle.js_grammar.specs.TypeFits.{bump, stop_marks, stop_brackets, stop_sign, stop, stop_barred, stop_pre, stop_core, stop_base, stop_form, stop_params, stop_begun, stop_param, stop_elements, stop_rows, stop_prop, FitsMarks, FitsBrackets, FitsKey, CommaFits, Fits, FitsBarred, FitsPre, FitsCore, FitsBase, FitsForm, FitsParams, FitsParam, FitsTypes, FitsProps, FitsProp}
use Rattle.js_grammar.specs.GoesOn.{goes_on_type}
use Rattle.js_grammar.specs.Machine.{Open, open_at, in_array, in_group, in_named, in_result, in_tuple, in_prop, Mode, want, want_pre, after_base, group_start, group_name, closed, tuple_start, object_start, after_sign, after_key, Stack, Step, fault, go, done, end_mark, can_fun, fresh, start_base, after_param, after_prop, give, after_pres, after_core, base_step, word_step, want_step, name_rest, name_step, ending_of, step, Outcome, faulty, whole, resume, run, read_tokens, first, go_on}
use Rattle.js_grammar.proofs.Words.{name_word}

-- those that can go on a member of a union: a bar only goes on a function type
abbrev pub pre_goes_on : Bool → Bool → TokenKind → Bool
pre_goes_on can is_fun (Punct OpenBracket) = true
pre_goes_on can is_fun (Punct Bar) = is_fun
pre_goes_on can is_fun (Punct Arrow) = can
pre_goes_on can is_fun _ = false

abbrev pub names_on : TokenKind → Bool
names_on (Punct Colon) = true
names_on (Punct Question) = true
names_on _ = false

-- a function type stands only where it may
abbrev pub MayStand : Bool → Stack → Bool → Type 0
MayStand can k is_fun = is_fun ≡ true → can_fun can k ≡ true

pre-of_fun : (can : Bool) (x : TokenKind) → pre_goes_on can true x ≡ false → goes_on_type can x ≡ false
pre-of_fun can (Punct OpenBracket) e = e
pre-of_fun can (Punct Bar) e = e
pre-of_fun can (Punct Arrow) e = e
pre-of_fun can _ e = refl

pre-of : (can is_fun : Bool) (x : TokenKind) → goes_on_type can x ≡ false → pre_goes_on can is_fun x ≡ false
pre-of can is_fun (Punct OpenBracket) e = cc
pre-of can is_fun (Punct Bar) e = cc
pre-of can is_fun (Punct Arrow) e = e
pre-of can is_fun _ e = refl

abbrev arrow_on : Bool → TokenKind → Bool
arrow_on can (Punct Arrow) = can
arrow_on can _ = false

pre-arrow : (can : Bool) (x : TokenKind) → pre_goes_on can false x ≡ false → arrow_on can x ≡ false
pre-arrow can (Punct Arrow) e = e
pre-arrow can _ e = refl

abbrev is_separator : TokenKind → Bool
is_separator (Punct CloseParen) = true
is_separator (Punct CloseBracket) = true
is_separator (Punct CloseBrace) = true
is_separator (Punct Comma) = true
is_separator _ = false

separator-goes : (can : Bool) (x : TokenKind) → is_separator x ≡ true → goes_on_type can x ≡ false
separator-goes can (Punct OpenBracket) e = cc
separator-goes can (Punct Bar) e = cc
separator-goes can (Punct Arrow) e = cc
separator-goes can _ e = refl

separator-names : (x : TokenKind) → is_separator x ≡ true → names_on x ≡ false
separator-names (Punct Colon) e = cc
separator-names (Punct Question) e = cc
separator-names _ e = refl

starts : (b : Base) (i : ℕ) → FitsBase b i → start_base b ≡ i
starts (base f t x) i h = h.0

module _ (can : Bool) where
  abbrev Run : ℕ → Stack → Mode → Tokens → Outcome
  Run i k m l = run can i k m l

  -- the token after a form decides
  abbrev Then : ℕ → Step → Tokens → Outcome
  Then i s l = go_on can i s l

  run-go_on : (i : ℕ) (k : Stack) (m : Mode) (l : Tokens) → Run i k m l ≡ Then i (step can i k m (first l)) l
  run-go_on i k m [] = refl
  run-go_on i k m (x ∷ l) = refl

  -- a type's name, where one may stand
  name_read : (n : Bytes) → IsTypeName n → (i : ℕ) (k : Stack) (u : Open) (l : Tokens) → Run i k (want_pre u) (Name n ∷ l) ≡ Run (suc i) k (after_base u (base i (suc i) (name n)) no_place) l
  name_read n h i k (open_at f lead m p q) l = ap (λ w. resume (λ k m. Run (suc i) k m l) (word_step i k (open_at f lead m p q) n w) (Name n ∷ l)) (name_word n h)

  number_read : (n : Bytes) → is_type_number n ≡ true → (i : ℕ) (k : Stack) (u : Open) (l : Tokens) → Run i k (want_pre u) (Number n ∷ l) ≡ Run (suc i) k (after_base u (base i (suc i) (num n)) no_place) l
  number_read n h i k (open_at f lead m p q) l = ap (λ b. resume (λ k m. Run (suc i) k m l) (if b then go k (after_base (open_at f lead m p q) (base i (suc i) (num n)) no_place) else fault) (Number n ∷ l)) h

  -- a union without a leading bar begins with its first member
  begin_form : (x : Form) (i : ℕ) (k : Stack) (l : Tokens) → Run i k want (spell_form x l) ≡ Run i k (want_pre (fresh i)) (spell_form x l)
  begin_form (name n) i k l = refl
  begin_form (str n) i k l = refl
  begin_form (num n) i k l = refl
  begin_form null i k l = refl
  begin_form void i k l = refl
  begin_form (truth b) i k l = refl
  begin_form (array o t) i k l = refl
  begin_form (paren t) i k l = refl
  begin_form (tuple g c) i k l = refl
  begin_form (object g bare) i k l = refl
  begin_form (object g comma) i k l = refl
  begin_form (object g dots) i k l = refl

  begin_core : (c : Core) (i : ℕ) (k : Stack) (l : Tokens) → Run i k want (spell_core c l) ≡ Run i k (want_pre (fresh i)) (spell_core c l)
  begin_core (fun f t g c r) i k l = refl
  begin_core (post f t (base a e x) bs) i k l = begin_form x i k (brackets bs l)

  begin_pre : (q : Places) (c : Core) (i : ℕ) (k : Stack) (l : Tokens) → Run i k want (marks q (spell_core c l)) ≡ Run i k (want_pre (fresh i)) (marks q (spell_core c l))
  begin_pre no_place c i k l = begin_core c i k l
  begin_pre (more_place q p) c i k l = begin_marks q i k (spell_core c l)
    where
      begin_marks : (q : Places) (i : ℕ) (k : Stack) (l : Tokens) → Run i k want (marks q (Punct Question ∷ l)) ≡ Run i k (want_pre (fresh i)) (marks q (Punct Question ∷ l))
      begin_marks no_place i k l = refl
      begin_marks (more_place q p) i k l = begin_marks q i k (Punct Question ∷ l)

  begin_barred : (ps : Pres) (p : Pre) (i : ℕ) (k : Stack) (l : Tokens) → Run i k want (spell_barred ps (spell_pre p l)) ≡ Run i k (want_pre (fresh i)) (spell_barred ps (spell_pre p l))
  begin_barred no_pre (pre f t q c) i k l = begin_pre q c i k l
  begin_barred (more_pre ps p) q i k l = begin_barred ps p i k (Punct Bar ∷ spell_pre q l)

  marks_run : (q : Places) (i : ℕ) → FitsMarks q i → (k : Stack) (f : ℕ) (lead : Bool) (m : Pres) (p : ℕ) (l : Tokens) →
      Run i k (want_pre (open_at f lead m p no_place)) (marks q l) ≡ Run (stop_marks q i) k (want_pre (open_at f lead m p q)) l
  marks_run no_place i h k f lead m p l = refl
  marks_run (more_place q j) i h k f lead m p l =
      marks_run q i (h.0) k f lead m p (Punct Question ∷ l) ∙ ap (λ j. Run (suc (stop_marks q i)) k (want_pre (open_at f lead m p (more_place q j))) l) (sym (h.1))

  brackets_run : (bs : Places) (i : ℕ) → FitsBrackets bs i → (k : Stack) (u : Open) (b : Base) (l : Tokens) →
      Run i k (after_base u b no_place) (brackets bs l) ≡ Run (stop_brackets bs i) k (after_base u b bs) l
  brackets_run no_place i h k u b l = refl
  brackets_run (more_place bs j) i h k u b l =
      brackets_run bs i (h.0) k u b (Punct OpenBracket ∷ Punct CloseBracket ∷ l) ∙ ap (λ j. Run (suc (suc (stop_brackets bs i))) k (after_base u b (more_place bs j)) l) (sym (h.1))

  -- a parameter that is a type begins as that type
  name_rest_same : (x : TokenKind) → names_on x ≡ false → (i : ℕ) (k : Stack) (u : Open) (s : ℕ) (g : Params) (n : Bytes) (l : Tokens) → IsTypeName n →
      resume (λ k m. Run (suc (suc i)) k m l) (name_step can (suc i) k u s g i n x) (x ∷ l) ≡ resume (λ k m. Run (suc (suc i)) k m l) (base_step can (suc i) (in_group u s g ∷ k) (fresh i) (base i (suc i) (name n)) no_place x) (x ∷ l)
  name_rest_same (Punct Colon) e i k u s g n l h = cc
  name_rest_same (Punct Question) e i k u s g n l h = cc
  name_rest_same x e i k u s g n l h = ap (λ w. resume (λ k m. Run (suc (suc i)) k m l) (name_rest can (suc i) k u s g i n w x) (x ∷ l)) (name_word n h)

  name_begins : (x : TokenKind) (n : Bytes) → IsTypeName n → names_on x ≡ false → (i : ℕ) (u : Open) (s : ℕ) (g : Params) (k : Stack) (l : Tokens) →
      Run i k (group_start u s g) (Name n ∷ x ∷ l) ≡ Run i (in_group u s g ∷ k) want (Name n ∷ x ∷ l)
  name_begins x n h e i u s g k l =
      ap (λ b. resume (λ k m. Run (suc i) k m (x ∷ l)) (if b then want_step i (in_group u s g ∷ k) (Name n) else go k (group_name u s g i n)) (Name n ∷ x ∷ l)) (h.0)
      ∙ name_rest_same x e i k u s g n l h ∙ sym (name_read n h i (in_group u s g ∷ k) (fresh i) (x ∷ l))

  begin_param_form : (y : Form) (i : ℕ) → FitsForm y i → (bs : Places) (u : Open) (s : ℕ) (g : Params) (k : Stack) (l : Tokens) → names_on (first l) ≡ false →
      Run i k (group_start u s g) (spell_form y (brackets bs l)) ≡ Run i (in_group u s g ∷ k) want (spell_form y (brackets bs l))
  begin_param_form (name n) i h bs u s g k l e = at (brackets bs l) (ends bs l e)
    where
      ends_more : (bs : Places) (l : Tokens) → names_on (first (brackets bs (Punct OpenBracket ∷ l))) ≡ false
      ends_more no_place l = refl
      ends_more (more_place bs j) l = ends_more bs (Punct CloseBracket ∷ Punct OpenBracket ∷ l)

      ends : (bs : Places) (l : Tokens) → names_on (first l) ≡ false → names_on (first (brackets bs l)) ≡ false
      ends no_place l e = e
      ends (more_place bs j) l e = ends_more bs (Punct CloseBracket ∷ l)

      at : (l : Tokens) → names_on (first l) ≡ false → Run i k (group_start u s g) (Name n ∷ l) ≡ Run i (in_group u s g ∷ k) want (Name n ∷ l)
      at [] e = at_end
        where
          at_end : Run i k (group_start u s g) (Name n ∷ []) ≡ Run i (in_group u s g ∷ k) want (Name n ∷ [])
          at_end =
              ap (λ b. resume (λ k m. Run (suc i) k m []) (if b then want_step i (in_group u s g ∷ k) (Name n) else go k (group_name u s g i n)) (Name n ∷ [])) (h.0)
              ∙ ap (λ w. resume (λ k m. faulty []) (name_rest can (suc i) k u s g i n w end_mark) []) (name_word n h) ∙ sym (name_read n h i (in_group u s g ∷ k) (fresh i) [])
      at (x ∷ l) e = name_begins x n h e i u s g k l
  begin_param_form (str n) i h bs u s g k l e = refl
  begin_param_form (num n) i h bs u s g k l e = refl
  begin_param_form null i h bs u s g k l e = refl
  begin_param_form void i h bs u s g k l e = refl
  begin_param_form (truth true) i h bs u s g k l e = refl
  begin_param_form (truth false) i h bs u s g k l e = refl
  begin_param_form (array true t) i h bs u s g k l e = refl
  begin_param_form (array false t) i h bs u s g k l e = refl
  begin_param_form (paren t) i h bs u s g k l e = refl
  begin_param_form (tuple t c) i h bs u s g k l e = refl
  begin_param_form (object ps bare) i h bs u s g k l e = refl
  begin_param_form (object ps comma) i h bs u s g k l e = refl
  begin_param_form (object ps dots) i h bs u s g k l e = refl

  begin_param_core : (c : Core) (i : ℕ) → FitsCore c i → (u : Open) (s : ℕ) (g : Params) (k : Stack) (l : Tokens) → names_on (first l) ≡ false →
      Run i k (group_start u s g) (spell_core c l) ≡ Run i (in_group u s g ∷ k) want (spell_core c l)
  begin_param_core (fun f t ps c r) i h u s g k l e = refl
  begin_param_core (post f t (base a d x) bs) i h u s g k l e = begin_param_form x i (h.2.2) bs u s g k l e

  begin_param_marks : (q : Places) (i : ℕ) (u : Open) (s : ℕ) (g : Params) (k : Stack) (l : Tokens) → Run i k (group_start u s g) (marks q (Punct Question ∷ l)) ≡ Run i (in_group u s g ∷ k) want (marks q (Punct Question ∷ l))
  begin_param_marks no_place i u s g k l = refl
  begin_param_marks (more_place q p) i u s g k l = begin_param_marks q i u s g k (Punct Question ∷ l)

  begin_param_pre : (p : Pre) (i : ℕ) → FitsPre p i → (u : Open) (s : ℕ) (g : Params) (k : Stack) (l : Tokens) → names_on (first l) ≡ false →
      Run i k (group_start u s g) (spell_pre p l) ≡ Run i (in_group u s g ∷ k) want (spell_pre p l)
  begin_param_pre (pre f t no_place c) i h u s g k l e = begin_param_core c i (h.3) u s g k l e
  begin_param_pre (pre f t (more_place q p) c) i h u s g k l e = begin_param_marks q i u s g k (spell_core c l)

  begin_param_pres : (ps : Pres) (p : Pre) (i : ℕ) → FitsBarred ps i → FitsPre p (stop_barred ps i) → (u : Open) (s : ℕ) (g : Params) (k : Stack) (l : Tokens) → names_on (first l) ≡ false →
      Run i k (group_start u s g) (spell_barred ps (spell_pre p l)) ≡ Run i (in_group u s g ∷ k) want (spell_barred ps (spell_pre p l))
  begin_param_pres no_pre p i h j u s g k l e = begin_param_pre p i j u s g k l e
  begin_param_pres (more_pre ps p) q i h j u s g k l e = begin_param_pres ps p i (h.0) (h.1) u s g k (Punct Bar ∷ spell_pre q l) refl

  begin_param : (t : Ty) (i : ℕ) → Fits t i → (u : Open) (s : ℕ) (g : Params) (k : Stack) (l : Tokens) → names_on (first l) ≡ false →
      Run i k (group_start u s g) (spell t l) ≡ Run i (in_group u s g ∷ k) want (spell t l)
  begin_param (ty f t true ps) i h u s g k l e = refl
  begin_param (ty f t false no_pre) i h u s g k l e = absurd (h.2)
  begin_param (ty f t false (more_pre ps p)) i h u s g k l e = begin_param_pres ps p i (h.2.0) (h.2.1) u s g k l e

  -- a type in a tuple
  begin_element_form : (x : Form) (i : ℕ) (u : Open) (s : ℕ) (g : Types) (k : Stack) (l : Tokens) → Run i k (tuple_start u s g) (spell_form x l) ≡ Run i (in_tuple u s g ∷ k) want (spell_form x l)
  begin_element_form (name n) i u s g k l = refl
  begin_element_form (str n) i u s g k l = refl
  begin_element_form (num n) i u s g k l = refl
  begin_element_form null i u s g k l = refl
  begin_element_form void i u s g k l = refl
  begin_element_form (truth b) i u s g k l = refl
  begin_element_form (array o t) i u s g k l = refl
  begin_element_form (paren t) i u s g k l = refl
  begin_element_form (tuple t c) i u s g k l = refl
  begin_element_form (object ps bare) i u s g k l = refl
  begin_element_form (object ps comma) i u s g k l = refl
  begin_element_form (object ps dots) i u s g k l = refl

  begin_element_marks : (q : Places) (i : ℕ) (u : Open) (s : ℕ) (g : Types) (k : Stack) (l : Tokens) → Run i k (tuple_start u s g) (marks q (Punct Question ∷ l)) ≡ Run i (in_tuple u s g ∷ k) want (marks q (Punct Question ∷ l))
  begin_element_marks no_place i u s g k l = refl
  begin_element_marks (more_place q p) i u s g k l = begin_element_marks q i u s g k (Punct Question ∷ l)

  begin_element_pre : (p : Pre) (i : ℕ) (u : Open) (s : ℕ) (g : Types) (k : Stack) (l : Tokens) → Run i k (tuple_start u s g) (spell_pre p l) ≡ Run i (in_tuple u s g ∷ k) want (spell_pre p l)
  begin_element_pre (pre f t (more_place q p) c) i u s g k l = begin_element_marks q i u s g k (spell_core c l)
  begin_element_pre (pre f t no_place (fun a e ps c r)) i u s g k l = refl
  begin_element_pre (pre f t no_place (post a e (base b d x) bs)) i u s g k l = begin_element_form x i u s g k (brackets bs l)

  begin_element_pres : (ps : Pres) (p : Pre) (i : ℕ) (u : Open) (s : ℕ) (g : Types) (k : Stack) (l : Tokens) → Run i k (tuple_start u s g) (spell_barred ps (spell_pre p l)) ≡ Run i (in_tuple u s g ∷ k) want (spell_barred ps (spell_pre p l))
  begin_element_pres no_pre p i u s g k l = begin_element_pre p i u s g k l
  begin_element_pres (more_pre ps p) q i u s g k l = begin_element_pres ps p i u s g k (Punct Bar ∷ spell_pre q l)

  begin_element : (t : Ty) (i : ℕ) → Fits t i → (u : Open) (s : ℕ) (g : Types) (k : Stack) (l : Tokens) → Run i k (tuple_start u s g) (spell t l) ≡ Run i (in_tuple u s g ∷ k) want (spell t l)
  begin_element (ty f t true ps) i h u s g k l = refl
  begin_element (ty f t false no_pre) i h u s g k l = absurd (h.2)
  begin_element (ty f t false (more_pre ps p)) i h u s g k l = begin_element_pres ps p i u s g k l

  -- parentheses round one type are read as such where no arrow follows that makes them parameters
  closed_single : (c : Bool) (x : TokenKind) (i : ℕ) (u : Open) (s : ℕ) (t : Ty) (k : Stack) (l : Tokens) → can_fun can k ≡ c → arrow_on c x ≡ false →
      Then i (step can i k (closed u s (more_param no_param (plain t)) false) x) l ≡ Then i (step can i k (after_base u (base s i (paren t)) no_place) x) l
  closed_single false (Punct Arrow) i u s t k l c e = rw c refl
  closed_single true (Punct Arrow) i u s t k l c e = cc
  closed_single b _ i u s t k l c e = refl

  -- after a form that is no function type
  after_post : (x : TokenKind) (c : Bool) (i : ℕ) (u : Open) (b : Base) (bs : Places) (k : Stack) (l : Tokens) → pre_goes_on c false x ≡ false →
      Then i (step can i k (after_base u b bs) x) l ≡ Then i (after_core can i k u (post (start_base b) i b bs) x) l
  after_post (Punct OpenBracket) c i u b bs k l e = cc
  after_post _ c i u b bs k l e = refl

  after_fun : (x : TokenKind) (c : Bool) (i f : ℕ) (lead : Bool) (ps : Pres) (k : Stack) (l : Tokens) → pre_goes_on c true x ≡ false →
      Then i (give can i k (ty f i lead ps) x) l ≡ Then i (after_pres can i k f lead ps x) l
  after_fun (Punct Bar) c i f lead ps k l e = cc
  after_fun _ c i f lead ps k l e = refl

  after_last : (x : TokenKind) (c : Bool) (i f : ℕ) (lead : Bool) (ps : Pres) (k : Stack) (l : Tokens) → goes_on_type c x ≡ false →
      Then i (after_pres can i k f lead ps x) l ≡ Then i (give can i k (ty f i lead ps) x) l
  after_last (Punct Bar) c i f lead ps k l e = cc
  after_last _ c i f lead ps k l e = refl

  closed_arrow : (i : ℕ) (u : Open) (s : ℕ) (g : Params) (c : Bool) (k : Stack) (l : Tokens) → can_fun can k ≡ true →
      Run i k (closed u s g c) (Punct Arrow ∷ l) ≡ Run (suc i) (in_result u s g c ∷ k) want l
  closed_arrow i u s g c k l e = rw e refl

  after_comma : (i : ℕ) (u : Open) (s : ℕ) (g : Params) (k : Stack) (l : Tokens) → can_fun can k ≡ true →
      Then i (after_param (can_fun can k) k u s g (Punct Comma)) (Punct Comma ∷ l) ≡ Run (suc i) k (group_start u s g) l
  after_comma i u s g k l c = rw c refl

  no_params_close : (i : ℕ) (u : Open) (s : ℕ) (k : Stack) (l : Tokens) → can_fun can k ≡ true → Run i k (group_start u s no_param) (Punct CloseParen ∷ l) ≡ Run (suc i) k (closed u s no_param false) l
  no_params_close i u s k l c = rw c refl

  named_begins : (o : Bool) (i : ℕ) (u : Open) (s : ℕ) (g : Params) (n : Bytes) (k : Stack) (l : Tokens) → IsName n → can_fun can k ≡ true →
      Run i k (group_start u s g) (Name n ∷ opt o (Punct Question) (Punct Colon ∷ l)) ≡ Run (suc (bump o (suc i))) (in_named u s g i n o ∷ k) want l
  named_begins true i u s g n k l r c = rw (r, c) refl
  named_begins false i u s g n k l r c = rw (r, c) refl

  brackets_arrow : (bs : Places) (c : Bool) (l : Tokens) → pre_goes_on c false (first l) ≡ false → arrow_on c (first (brackets bs l)) ≡ false
  brackets_arrow no_place c l e = pre-arrow c (first l) e
  brackets_arrow (more_place bs j) c l e = some bs (Punct CloseBracket ∷ l)
    where
      some : (bs : Places) (l : Tokens) → arrow_on c (first (brackets bs (Punct OpenBracket ∷ l))) ≡ false
      some no_place l = refl
      some (more_place bs j) l = some bs (Punct CloseBracket ∷ Punct OpenBracket ∷ l)

  -- a key is one token
  key_read : (y : Key) (i : ℕ) → FitsKey y i → (k : Stack) (u : Open) (s : ℕ) (g : Props) (a : ℕ) (v : Sign) (l : Tokens) →
      Run i k (after_sign u s g a v) (spell_key y l) ≡ Run (suc i) k (after_key u s g a v y) l
  key_read (key f t (word_key n)) i h k u s g a v l = ap (λ y. Run (suc i) k (after_key u s g a v y) l) (ap₂ (λ f t. key f t (word_key n)) (sym (h.0)) (sym (h.1)))
  key_read (key f t (text_key n)) i h k u s g a v l = ap (λ y. Run (suc i) k (after_key u s g a v y) l) (ap₂ (λ f t. key f t (text_key n)) (sym (h.0)) (sym (h.1)))

  unsigned_read : (y : Key) (i : ℕ) (k : Stack) (u : Open) (s : ℕ) (g : Props) (l : Tokens) → Run i k (object_start u s g) (spell_key y l) ≡ Run i k (after_sign u s g i unsigned) (spell_key y l)
  unsigned_read (key f t (word_key n)) i k u s g l = refl
  unsigned_read (key f t (text_key n)) i k u s g l = refl

  sign_read : (v : Sign) (y : Key) (i : ℕ) (k : Stack) (u : Open) (s : ℕ) (g : Props) (l : Tokens) →
      Run i k (object_start u s g) (spell_sign v (spell_key y l)) ≡ Run (stop_sign v i) k (after_sign u s g i v) (spell_key y l)
  sign_read unsigned y i k u s g l = unsigned_read y i k u s g l
  sign_read plus y i k u s g l = refl
  sign_read minus y i k u s g l = refl

  mark_read : (o : Bool) (i : ℕ) (k : Stack) (u : Open) (s : ℕ) (g : Props) (a : ℕ) (v : Sign) (y : Key) (l : Tokens) →
      Run i k (after_key u s g a v y) (opt o (Punct Question) (Punct Colon ∷ l)) ≡ Run (suc (bump o i)) (in_prop u s g a v y o ∷ k) want l
  mark_read true i k u s g a v y l = refl
  mark_read false i k u s g a v y l = refl

  object_end : (g : Props) → has_props g ≡ true → ending_of g ≡ comma
  object_end no_prop e = absurd (false≢true e)
  object_end (more_prop g p) e = refl

  object_comma : (i : ℕ) (u : Open) (s : ℕ) (g : Props) (k : Stack) (l : Tokens) → has_props g ≡ true →
      Run i k (object_start u s g) (Punct CloseBrace ∷ l) ≡ Run (suc i) k (after_base u (base s (suc i) (object g comma)) no_place) l
  object_comma i u s g k l e = ap (λ d. Run (suc i) k (after_base u (base s (suc i) (object g d)) no_place) l) (object_end g e)

  mutual
    c_ty : (t : Ty) (i : ℕ) → Fits t i → (k : Stack) (l : Tokens) → MayStand can k (has_fun t) → goes_on_type (can_fun can k) (first l) ≡ false →
        Run i k want (spell t l) ≡ Then (stop t i) (give can (stop t i) k t (first l)) l
    c_ty (ty f t lead no_pre) i h k l a e = absurd (h.2)
    c_ty (ty f t true (more_pre ps p)) i h k l a e =
        c_barred ps i true (suc i) (h.2.0) k (spell_pre p l) ∙ c_pre p i true ps (stop_barred ps (suc i)) (h.2.1) k l a (pre-of (can_fun can k) (is_fun_pre p) (first l) e)
        ∙ after_last (first l) (can_fun can k) (stop_pre p (stop_barred ps (suc i))) i true (more_pre ps p) k l e
        ∙ ap (λ t. Then (stop_pre p (stop_barred ps (suc i))) (give can (stop_pre p (stop_barred ps (suc i))) k t (first l)) l) (ap₂ (λ f t. ty f t true (more_pre ps p)) (sym (h.0)) (sym (h.1)))
    c_ty (ty f t false (more_pre ps p)) i h k l a e =
        begin_barred ps p i k l ∙ c_barred ps i false i (h.2.0) k (spell_pre p l) ∙ c_pre p i false ps (stop_barred ps i) (h.2.1) k l a (pre-of (can_fun can k) (is_fun_pre p) (first l) e)
        ∙ after_last (first l) (can_fun can k) (stop_pre p (stop_barred ps i)) i false (more_pre ps p) k l e
        ∙ ap (λ t. Then (stop_pre p (stop_barred ps i)) (give can (stop_pre p (stop_barred ps i)) k t (first l)) l) (ap₂ (λ f t. ty f t false (more_pre ps p)) (sym (h.0)) (sym (h.1)))

    c_barred : (ps : Pres) (f : ℕ) (lead : Bool) (i : ℕ) → FitsBarred ps i → (k : Stack) (l : Tokens) →
        Run i k (want_pre (open_at f lead no_pre i no_place)) (spell_barred ps l) ≡ Run (stop_barred ps i) k (want_pre (open_at f lead ps (stop_barred ps i) no_place)) l
    c_barred no_pre f lead i h k l = refl
    c_barred (more_pre ps p) f lead i h k l =
        c_barred ps f lead i (h.0) k (spell_pre p (Punct Bar ∷ l)) ∙ c_pre p f lead ps (stop_barred ps i) (h.1) k (Punct Bar ∷ l) (λ g. absurd (false≢true (sym (h.2) ∙ g))) (h.2)

    c_pre : (p : Pre) (f : ℕ) (lead : Bool) (m : Pres) (i : ℕ) → FitsPre p i → (k : Stack) (l : Tokens) → MayStand can k (is_fun_pre p) → pre_goes_on (can_fun can k) (is_fun_pre p) (first l) ≡ false →
        Run i k (want_pre (open_at f lead m i no_place)) (spell_pre p l) ≡ Then (stop_pre p i) (after_pres can (stop_pre p i) k f lead (more_pre m p) (first l)) l
    c_pre (pre a t q c) f lead m i h k l s e =
        marks_run q i (h.2) k f lead m i (spell_core c l) ∙ c_core c f lead m i q (stop_marks q i) (h.3) k l s e
        ∙ ap (λ p. Then (stop_core c (stop_marks q i)) (after_pres can (stop_core c (stop_marks q i)) k f lead (more_pre m p) (first l)) l) (ap₂ (λ a t. pre a t q c) (sym (h.0)) (sym (h.1)))

    c_core : (c : Core) (f : ℕ) (lead : Bool) (m : Pres) (p : ℕ) (q : Places) (i : ℕ) → FitsCore c i → (k : Stack) (l : Tokens) → MayStand can k (is_fun_core c) → pre_goes_on (can_fun can k) (is_fun_core c) (first l) ≡ false →
        Run i k (want_pre (open_at f lead m p q)) (spell_core c l) ≡ Then (stop_core c i) (after_core can (stop_core c i) k (open_at f lead m p q) c (first l)) l
    c_core (fun a t g c r) f lead m p q i h k l s e =
        let u = open_at f lead m p q in let j = bump c (stop_params g (suc i)) in let z = stop r (suc (suc j)) in
        c_group g c u i (suc i) (h.2) (h.3) k (Punct Arrow ∷ spell r l) (s refl) ∙ closed_arrow (suc j) u i g c k (spell r l) (s refl)
        ∙ c_ty r (suc (suc j)) (h.4) (in_result u i g c ∷ k) l (λ f. refl) (rw (s refl) at (pre-of_fun (can_fun can k) (first l) e))
        ∙ after_fun (first l) (can_fun can k) z f lead (more_pre m (pre p z q (fun i z g c r))) k l e
        ∙ ap (λ d. Then z (after_core can z k u d (first l)) l) (ap₂ (λ a t. fun a t g c r) (sym (h.0)) (sym (h.1)))
    c_core (post a t b bs) f lead m p q i h k l s e =
        let u = open_at f lead m p q in let z = stop_brackets bs (stop_base b i) in
        c_base b u i (h.2) k (brackets bs l) (brackets_arrow bs (can_fun can k) l e)
        ∙ brackets_run bs (stop_base b i) (h.3) k u b l ∙ run-go_on z k (after_base u b bs) l ∙ after_post (first l) (can_fun can k) z u b bs k l e
        ∙ ap (λ d. Then z (after_core can z k u d (first l)) l) (ap₂ (λ a t. post a t b bs) (starts b i (h.2) ∙ sym (h.0)) (sym (h.1)))

    c_base : (b : Base) (u : Open) (i : ℕ) → FitsBase b i → (k : Stack) (l : Tokens) → arrow_on (can_fun can k) (first l) ≡ false →
        Run i k (want_pre u) (spell_base b l) ≡ Run (stop_base b i) k (after_base u b no_place) l
    c_base (base f t x) u i h k l e = c_form x u i (h.2) k l e ∙ ap (λ b. Run (stop_form x i) k (after_base u b no_place) l) (ap₂ (λ f t. base f t x) (sym (h.0)) (sym (h.1)))

    c_form : (x : Form) (u : Open) (i : ℕ) → FitsForm x i → (k : Stack) (l : Tokens) → arrow_on (can_fun can k) (first l) ≡ false →
        Run i k (want_pre u) (spell_form x l) ≡ Run (stop_form x i) k (after_base u (base i (stop_form x i) x) no_place) l
    c_form (name n) u i h k l e = name_read n h i k u l
    c_form (str n) (open_at f lead m p q) i h k l e = refl
    c_form (num n) u i h k l e = number_read n h i k u l
    c_form null (open_at f lead m p q) i h k l e = refl
    c_form void (open_at f lead m p q) i h k l e = refl
    c_form (truth true) (open_at f lead m p q) i h k l e = refl
    c_form (truth false) (open_at f lead m p q) i h k l e = refl
    c_form (array true t) (open_at f lead m p q) i h k l e = c_ty t (suc (suc i)) h (in_array (open_at f lead m p q) i true ∷ k) (Punct GreaterThan ∷ l) (λ f. refl) refl
    c_form (array false t) (open_at f lead m p q) i h k l e = c_ty t (suc (suc i)) h (in_array (open_at f lead m p q) i false ∷ k) (Punct GreaterThan ∷ l) (λ f. refl) refl
    c_form (paren t) (open_at f lead m p q) i h k l e =
        let u = open_at f lead m p q in let z = suc (stop t (suc i)) in
        begin_param t (suc i) h u i no_param k (Punct CloseParen ∷ l) refl ∙ c_ty t (suc i) h (in_group u i no_param ∷ k) (Punct CloseParen ∷ l) (λ f. refl) refl
        ∙ run-go_on z k (closed u i (more_param no_param (plain t)) false) l
        ∙ closed_single (can_fun can k) (first l) z u i t k l refl e ∙ sym (run-go_on z k (after_base u (base i z (paren t)) no_place) l)
    c_form (tuple no_type true) u i h k l e = absurd (false≢true (h.1 refl))
    c_form (tuple no_type false) (open_at f lead m p q) i h k l e = refl
    c_form (tuple (more_type g t) true) (open_at f lead m p q) i h k l e = c_elements g (open_at f lead m p q) i (suc i) (h.0.0) k (spell t (Punct Comma ∷ Punct CloseBracket ∷ l))
        ∙ begin_element t (stop_elements g (suc i)) (h.0.1) (open_at f lead m p q) i g k (Punct Comma ∷ Punct CloseBracket ∷ l)
        ∙ c_ty t (stop_elements g (suc i)) (h.0.1) (in_tuple (open_at f lead m p q) i g ∷ k) (Punct Comma ∷ Punct CloseBracket ∷ l) (λ f. refl) refl
    c_form (tuple (more_type g t) false) (open_at f lead m p q) i h k l e = c_elements g (open_at f lead m p q) i (suc i) (h.0.0) k (spell t (Punct CloseBracket ∷ l))
        ∙ begin_element t (stop_elements g (suc i)) (h.0.1) (open_at f lead m p q) i g k (Punct CloseBracket ∷ l)
        ∙ c_ty t (stop_elements g (suc i)) (h.0.1) (in_tuple (open_at f lead m p q) i g ∷ k) (Punct CloseBracket ∷ l) (λ f. refl) refl
    c_form (object no_prop bare) (open_at f lead m p q) i h k l e = refl
    c_form (object (more_prop g y) bare) (open_at f lead m p q) i h k l e = c_rows g (open_at f lead m p q) i (suc i) (h.0.0) k (spell_prop y (Punct CloseBrace ∷ l))
        ∙ c_prop y (stop_rows g (suc i)) (h.0.1) (open_at f lead m p q) i g k (Punct CloseBrace ∷ l) refl
    c_form (object g comma) (open_at f lead m p q) i h k l e = c_rows g (open_at f lead m p q) i (suc i) (h.0) k (Punct CloseBrace ∷ l)
        ∙ object_comma (stop_rows g (suc i)) (open_at f lead m p q) i g k l (h.1)
    c_form (object g dots) (open_at f lead m p q) i h k l e = c_rows g (open_at f lead m p q) i (suc i) (h.0) k (Punct Ellipsis ∷ Punct CloseBrace ∷ l)

    c_group : (g : Params) (c : Bool) (u : Open) (s i : ℕ) → FitsParams g i → CommaFits c (has_params g) → (k : Stack) (l : Tokens) → can_fun can k ≡ true →
        Run i k (group_start u s no_param) (spell_params g (opt c (Punct Comma) (Punct CloseParen ∷ l))) ≡ Run (suc (bump c (stop_params g i))) k (closed u s g c) l
    c_group no_param true u s i h j k l c = absurd (false≢true (j refl))
    c_group no_param false u s i h j k l c = no_params_close i u s k l c
    c_group (more_param g p) true u s i h j k l c =
        c_begun g u s i (h.0) k (spell_param p (Punct Comma ∷ Punct CloseParen ∷ l)) c ∙ c_param p (stop_begun g i) u s g (h.1) k (Punct Comma ∷ Punct CloseParen ∷ l) c refl
        ∙ after_comma (stop_param p (stop_begun g i)) u s (more_param g p) k (Punct CloseParen ∷ l) c
    c_group (more_param g p) false u s i h j k l c =
        c_begun g u s i (h.0) k (spell_param p (Punct CloseParen ∷ l)) c ∙ c_param p (stop_begun g i) u s g (h.1) k (Punct CloseParen ∷ l) c refl

    c_begun : (g : Params) (u : Open) (s i : ℕ) → FitsParams g i → (k : Stack) (l : Tokens) → can_fun can k ≡ true →
        Run i k (group_start u s no_param) (spell_begun g l) ≡ Run (stop_begun g i) k (group_start u s g) l
    c_begun no_param u s i h k l c = refl
    c_begun (more_param g p) u s i h k l c =
        c_begun g u s i (h.0) k (spell_param p (Punct Comma ∷ l)) c ∙ c_param p (stop_begun g i) u s g (h.1) k (Punct Comma ∷ l) c refl ∙ after_comma (stop_param p (stop_begun g i)) u s (more_param g p) k l c

    c_param : (p : Param) (i : ℕ) (u : Open) (s : ℕ) (g : Params) → FitsParam p i → (k : Stack) (l : Tokens) → can_fun can k ≡ true → is_separator (first l) ≡ true →
        Run i k (group_start u s g) (spell_param p l) ≡ Then (stop_param p i) (after_param (can_fun can k) k u s (more_param g p) (first l)) l
    c_param (plain t) i u s g h k l c e = begin_param t i h u s g k l (separator-names (first l) e) ∙ c_ty t i h (in_group u s g ∷ k) l (λ f. refl) (separator-goes true (first l) e)
    c_param (named a d n o t) i u s g h k l c e =
        let z = stop t (suc (bump o (suc i))) in
        named_begins o i u s g n k (spell t l) (h.2) c ∙ c_ty t (suc (bump o (suc i))) (h.3) (in_named u s g i n o ∷ k) l (λ f. refl) (separator-goes true (first l) e)
        ∙ ap (λ p. Then z (after_param (can_fun can k) k u s (more_param g p) (first l)) l) (ap₂ (λ a d. named a d n o t) (sym (h.0)) (sym (h.1)))

    c_elements : (g : Types) (u : Open) (s i : ℕ) → FitsTypes g i → (k : Stack) (l : Tokens) → Run i k (tuple_start u s no_type) (spell_elements g l) ≡ Run (stop_elements g i) k (tuple_start u s g) l
    c_elements no_type u s i h k l = refl
    c_elements (more_type g t) u s i h k l = c_elements g u s i (h.0) k (spell t (Punct Comma ∷ l)) ∙ begin_element t (stop_elements g i) (h.1) u s g k (Punct Comma ∷ l)
        ∙ c_ty t (stop_elements g i) (h.1) (in_tuple u s g ∷ k) (Punct Comma ∷ l) (λ f. refl) refl

    c_prop : (p : Prop) (i : ℕ) → FitsProp p i → (u : Open) (s : ℕ) (g : Props) (k : Stack) (l : Tokens) → is_separator (first l) ≡ true →
        Run i k (object_start u s g) (spell_prop p l) ≡ Then (stop_prop p i) (after_prop (stop_prop p i) k u s (more_prop g p) (first l)) l
    c_prop (prop f t v y o w) i h u s g k l e =
        let j = stop_sign v i in let z = suc (bump o (suc j)) in
        sign_read v y i k u s g (opt o (Punct Question) (Punct Colon ∷ spell w l)) ∙ key_read y j (h.2) k u s g i v (opt o (Punct Question) (Punct Colon ∷ spell w l))
        ∙ mark_read o (suc j) k u s g i v y (spell w l) ∙ c_ty w z (h.3) (in_prop u s g i v y o ∷ k) l (λ f. refl) (separator-goes true (first l) e)
        ∙ ap (λ p. Then (stop w z) (after_prop (stop w z) k u s (more_prop g p) (first l)) l) (ap₂ (λ f t. prop f t v y o w) (sym (h.0)) (sym (h.1)))

    c_rows : (g : Props) (u : Open) (s i : ℕ) → FitsProps g i → (k : Stack) (l : Tokens) → Run i k (object_start u s no_prop) (spell_rows g l) ≡ Run (stop_rows g i) k (object_start u s g) l
    c_rows no_prop u s i h k l = refl
    c_rows (more_prop g p) u s i h k l = c_rows g u s i (h.0) k (spell_prop p (Punct Comma ∷ l)) ∙ c_prop p (stop_rows g i) (h.1) u s g k (Punct Comma ∷ l) refl

  -- what a whole type's spelling is read as
  pub reads_spelling : (t : Ty) (i : ℕ) → Fits t i → MayStand can [] (has_fun t) → (l : Tokens) → goes_on_type (can_fun can []) (first l) ≡ false → read_tokens can i (spell t l) ≡ whole t l
  reads_spelling t i h a l e = c_ty t i h [] l a e ∙ whole_done (stop t i) t l
    where
      whole_done : (j : ℕ) (t : Ty) (l : Tokens) → Then j (done t) l ≡ whole t l
      whole_done j t [] = refl
      whole_done j t (x ∷ l) = refl
