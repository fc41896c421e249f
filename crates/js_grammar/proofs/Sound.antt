-- What has been read so far is the spelling of the stack and the mode, and each step reads its token.
use Rattle.std.proofs.Common.{◌≡◌, refl, sym, ◌∙◌, ap, ℕ, suc, Bool, true, false, [], ◌∷◌, if◌then◌else◌}
use Rattle.js_token.specs.Words.{is_reserved}
use Rattle.js_token.specs.declared.token.TokenKind.{TokenKind}
use Rattle.js_token.specs.declared.token.TokenKind.TheVariants.{Name, Number, Str, Punct}
use Rattle.js_token.specs.declared.punct.Punct.TheVariants.{OpenBrace, CloseBrace, OpenParen, CloseParen, OpenBracket, CloseBracket, Ellipsis, Comma, Colon, Question, Arrow, LessThan, GreaterThan, Plus, Minus, Bar}
use Rattle.js_grammar.specs.Words.{Bytes, array_name, is_type_number}
use Rattle.js_grammar.specs.Types.{Places, no_place, Sign, unsigned, Key, Ty, ty, Pres, more_pre, Pre, pre, fun, post, Base, base, name, num, paren, Params, no_param, more_param, Param, plain, named, Types, no_type, more_type, Props, no_prop, more_prop, Prop, prop}
use Rattle.js_grammar.specs.TypeSpelling.{Tokens, opt, marks, brackets, spell_sign, spell_key, spell, spell_barred, spell_pre, spell_base, spell_params, spell_begun, spell_param, spell_elements, spell_rows, spell_prop}
use Rattle.js_grammar.specs.Machine.{TypeWord, type_name, null_word, void_word, truth_of, array_word, other_word, type_word, Open, open_at, Frame, in_array, in_group, in_named, in_result, in_tuple, in_prop, Mode, want, want_pre, after_base, after_bracket, after_array, group_start, group_name, group_mark, closed, tuple_start, object_start, after_dots, after_sign, after_key, after_mark, Stack, Step, fault, go, done, can_fun, fresh, start_base, finish, after_param, after_type, after_element, after_prop, give, after_pres, base_step, word_step, pre_step, want_step, bracket_step, array_step, close_at, start_step, name_rest, name_step, mark_step, single, closed_step, tuple_step, key_step, object_step, dots_step, colon_step, marked_step, step}
use Rattle.js_grammar.proofs.Words.{IsWord, word_is}

abbrev pub spell_open : Open → Tokens → Tokens
spell_open (open_at f lead m p q) l = opt lead (Punct Bar) (spell_barred m (marks q l))

abbrev pub spell_frame : Frame → Tokens → Tokens
spell_frame (in_array u s o) l = spell_open u (Name (array_name o) ∷ Punct LessThan ∷ l)
spell_frame (in_group u s g) l = spell_open u (Punct OpenParen ∷ spell_begun g l)
spell_frame (in_named u s g a n o) l = spell_open u (Punct OpenParen ∷ spell_begun g (Name n ∷ opt o (Punct Question) (Punct Colon ∷ l)))
spell_frame (in_result u s g c) l = spell_open u (Punct OpenParen ∷ spell_params g (opt c (Punct Comma) (Punct CloseParen ∷ Punct Arrow ∷ l)))
spell_frame (in_tuple u s g) l = spell_open u (Punct OpenBracket ∷ spell_elements g l)
spell_frame (in_prop u s g a v y o) l = spell_open u (Punct OpenBrace ∷ spell_rows g (spell_sign v (spell_key y (opt o (Punct Question) (Punct Colon ∷ l)))))

abbrev pub spell_stack : Stack → Tokens → Tokens
spell_stack [] l = l
spell_stack (f ∷ k) l = spell_stack k (spell_frame f l)

abbrev pub spell_mode : Mode → Tokens → Tokens
spell_mode want l = l
spell_mode (want_pre u) l = spell_open u l
spell_mode (after_base u b bs) l = spell_open u (spell_base b (brackets bs l))
spell_mode (after_bracket u b bs j) l = spell_open u (spell_base b (brackets bs (Punct OpenBracket ∷ l)))
spell_mode (after_array u s o) l = spell_open u (Name (array_name o) ∷ l)
spell_mode (group_start u s g) l = spell_open u (Punct OpenParen ∷ spell_begun g l)
spell_mode (group_name u s g a n) l = spell_open u (Punct OpenParen ∷ spell_begun g (Name n ∷ l))
spell_mode (group_mark u s g a n) l = spell_open u (Punct OpenParen ∷ spell_begun g (Name n ∷ Punct Question ∷ l))
spell_mode (closed u s g c) l = spell_open u (Punct OpenParen ∷ spell_params g (opt c (Punct Comma) (Punct CloseParen ∷ l)))
spell_mode (tuple_start u s g) l = spell_open u (Punct OpenBracket ∷ spell_elements g l)
spell_mode (object_start u s g) l = spell_open u (Punct OpenBrace ∷ spell_rows g l)
spell_mode (after_dots u s g) l = spell_open u (Punct OpenBrace ∷ spell_rows g (Punct Ellipsis ∷ l))
spell_mode (after_sign u s g a v) l = spell_open u (Punct OpenBrace ∷ spell_rows g (spell_sign v l))
spell_mode (after_key u s g a v y) l = spell_open u (Punct OpenBrace ∷ spell_rows g (spell_sign v (spell_key y l)))
spell_mode (after_mark u s g a v y) l = spell_open u (Punct OpenBrace ∷ spell_rows g (spell_sign v (spell_key y (Punct Question ∷ l))))

-- the tokens of a state, and then l
abbrev pub so_far : Stack → Mode → Tokens → Tokens
so_far k m l = spell_stack k (spell_mode m l)

-- a step reads its token, or the tokens so far are a type
abbrev pub Follows : (Tokens → Tokens) → TokenKind → Step → Type 0
Follows s x fault = Unit {0}
Follows s x (go k m) = (l : Tokens) → so_far k m l ≡ s (x ∷ l)
Follows s x (done t) = (l : Tokens) → spell t l ≡ s l

-- a step that follows one spelling follows each equal one
moved : (s r : Tokens → Tokens) (x : TokenKind) (a : Step) → ((l : Tokens) → s l ≡ r l) → Follows s x a → Follows r x a
moved s r x fault e h = tt
moved s r x (go k m) e h = λ l. h l ∙ e (x ∷ l)
moved s r x (done t) e h = λ l. h l ∙ e l

-- a step that may be a fault
s_if : (b : Bool) (a : Step) (s : Tokens → Tokens) (x : TokenKind) → Follows s x a → Follows s x (if b then a else fault)
s_if true a s x h = h
s_if false a s x h = tt

module _ (can : Bool) (i : ℕ) where
  s_after_param : (c : Bool) (k : Stack) (u : Open) (s : ℕ) (g : Params) (p : Param) (x : TokenKind) → Follows (λ l. spell_stack k (spell_open u (Punct OpenParen ∷ spell_begun g (spell_param p l)))) x (after_param c k u s (more_param g p) x)
  s_after_param c k u s g p (Punct CloseParen) = λ l. refl
  s_after_param true k u s g p (Punct Comma) = λ l. refl
  s_after_param false k u s g p (Punct Comma) = tt
  s_after_param c k u s g p _ = tt

  s_after_type : (k : Stack) (u : Open) (s : ℕ) (g : Types) (t : Ty) (x : TokenKind) → Follows (λ l. spell_stack k (spell_open u (Punct OpenBracket ∷ spell_elements g (spell t l)))) x (after_type i k u s (more_type g t) x)
  s_after_type k u s g t (Punct CloseBracket) = λ l. refl
  s_after_type k u s g t (Punct Comma) = λ l. refl
  s_after_type k u s g t _ = tt

  s_after_element : (k : Stack) (u : Open) (s : ℕ) (o : Bool) (t : Ty) (x : TokenKind) → Follows (λ l. spell_stack k (spell_open u (Name (array_name o) ∷ Punct LessThan ∷ spell t l))) x (after_element i k u s o t x)
  s_after_element k u s o t (Punct GreaterThan) = λ l. refl
  s_after_element k u s o t _ = tt

  s_after_prop : (k : Stack) (u : Open) (s : ℕ) (g : Props) (p : Prop) (x : TokenKind) → Follows (λ l. spell_stack k (spell_open u (Punct OpenBrace ∷ spell_rows g (spell_prop p l)))) x (after_prop i k u s (more_prop g p) x)
  s_after_prop k u s g p (Punct CloseBrace) = λ l. refl
  s_after_prop k u s g p (Punct Comma) = λ l. refl
  s_after_prop k u s g p _ = tt

  s_give : (k : Stack) (t : Ty) (x : TokenKind) → Follows (λ l. spell_stack k (spell t l)) x (give can i k t x)
  s_give [] t x = λ l. refl
  s_give (in_array u s o ∷ k) t x = s_after_element k u s o t x
  s_give (in_group u s g ∷ k) t x = s_after_param (can_fun can k) k u s g (plain t) x
  s_give (in_named u s g a n o ∷ k) t x = s_after_param (can_fun can k) k u s g (named a i n o t) x
  s_give (in_result (open_at f lead m p q) s g c ∷ k) t x = s_give k (finish i (open_at f lead m p q) (fun s i g c t)) x
  s_give (in_tuple u s g ∷ k) t x = s_after_type k u s g t x
  s_give (in_prop u s g a v y o ∷ k) t x = s_after_prop k u s g (prop a i v y o t) x

  s_after_pres : (k : Stack) (f : ℕ) (lead : Bool) (ps : Pres) (p : Pre) (x : TokenKind) → Follows (λ l. spell_stack k (opt lead (Punct Bar) (spell_barred ps (spell_pre p l)))) x (after_pres can i k f lead (more_pre ps p) x)
  s_after_pres k f lead ps p (Punct Bar) = λ l. refl
  s_after_pres k f lead ps p x = s_give k (ty f i lead (more_pre ps p)) x

  s_base : (k : Stack) (u : Open) (b : Base) (bs : Places) (x : TokenKind) → Follows (λ l. spell_stack k (spell_open u (spell_base b (brackets bs l)))) x (base_step can i k u b bs x)
  s_base k u b bs (Punct OpenBracket) = λ l. refl
  s_base k (open_at f lead m p q) b bs x = s_after_pres k f lead m (pre p i q (post (start_base b) i b bs)) x

  s_word : (k : Stack) (u : Open) (n : Bytes) (w : TypeWord) → IsWord w n → Follows (λ l. spell_stack k (spell_open u l)) (Name n) (word_step i k u n w)
  s_word k u n type_name h = λ l. refl
  s_word k u n null_word h = λ l. ap (λ n. spell_stack k (spell_open u (Name n ∷ l))) (sym h)
  s_word k u n void_word h = λ l. ap (λ n. spell_stack k (spell_open u (Name n ∷ l))) (sym h)
  s_word k u n (truth_of b) h = λ l. ap (λ n. spell_stack k (spell_open u (Name n ∷ l))) (sym h)
  s_word k u n (array_word o) h = λ l. ap (λ n. spell_stack k (spell_open u (Name n ∷ l))) (sym h)
  s_word k u n other_word h = tt

  s_pre : (k : Stack) (u : Open) (x : TokenKind) → Follows (λ l. spell_stack k (spell_open u l)) x (pre_step i k u x)
  s_pre k (open_at f lead m p q) (Punct Question) = λ l. refl
  s_pre k (open_at f lead m p q) (Name n) = s_word k (open_at f lead m p q) n (type_word n) (word_is n)
  s_pre k (open_at f lead m p q) (Str n) = λ l. refl
  s_pre k (open_at f lead m p q) (Number n) =
      s_if (is_type_number n) (go k (after_base (open_at f lead m p q) (base i (suc i) (num n)) no_place)) (λ l. spell_stack k (spell_open (open_at f lead m p q) l)) (Number n) (λ l. refl)
  s_pre k (open_at f lead m p q) (Punct OpenParen) = λ l. refl
  s_pre k (open_at f lead m p q) (Punct OpenBracket) = λ l. refl
  s_pre k (open_at f lead m p q) (Punct OpenBrace) = λ l. refl
  s_pre k (open_at f lead m p q) (Punct _) = tt

  s_want : (k : Stack) (x : TokenKind) → Follows (λ l. spell_stack k l) x (want_step i k x)
  s_want k (Punct Bar) = λ l. refl
  s_want k x = s_pre k (fresh i) x

  s_single : (k : Stack) (u : Open) (s : ℕ) (g : Params) (c : Bool) (x : TokenKind) → Follows (λ l. spell_stack k (spell_open u (Punct OpenParen ∷ spell_params g (opt c (Punct Comma) (Punct CloseParen ∷ l))))) x (single can i k u s g c x)
  s_single k u s (more_param no_param (plain t)) false x = s_base k u (base s i (paren t)) no_place x
  s_single k u s (more_param no_param (plain t)) true x = tt
  s_single k u s (more_param no_param (named a e n o t)) c x = tt
  s_single k u s (more_param (more_param g j) p) c x = tt
  s_single k u s no_param c x = tt

  s_closed_arrow : (b : Bool) (k : Stack) (u : Open) (s : ℕ) (g : Params) (c : Bool) →
      Follows (λ l. spell_stack k (spell_open u (Punct OpenParen ∷ spell_params g (opt c (Punct Comma) (Punct CloseParen ∷ l))))) (Punct Arrow) (if b then go (in_result u s g c ∷ k) want else single can i k u s g c (Punct Arrow))
  s_closed_arrow true k u s g c = λ l. refl
  s_closed_arrow false k u s g c = s_single k u s g c (Punct Arrow)

  s_closed : (k : Stack) (u : Open) (s : ℕ) (g : Params) (c : Bool) (x : TokenKind) → Follows (λ l. spell_stack k (spell_open u (Punct OpenParen ∷ spell_params g (opt c (Punct Comma) (Punct CloseParen ∷ l))))) x (closed_step can i k u s g c x)
  s_closed k u s g c (Punct Arrow) = s_closed_arrow (can_fun can k) k u s g c
  s_closed k u s g c x = s_single k u s g c x

  s_close_at : (b : Bool) (k : Stack) (u : Open) (s : ℕ) (g : Params) → Follows (λ l. spell_stack k (spell_open u (Punct OpenParen ∷ spell_begun g l))) (Punct CloseParen) (close_at b k u s g)
  s_close_at true k u s no_param = λ l. refl
  s_close_at false k u s no_param = tt
  s_close_at b k u s (more_param g p) = λ l. refl

  s_name_start : (b : Bool) (k : Stack) (u : Open) (s : ℕ) (g : Params) (n : Bytes) → Follows (λ l. spell_stack k (spell_open u (Punct OpenParen ∷ spell_begun g l))) (Name n) (if b then want_step i (in_group u s g ∷ k) (Name n) else go k (group_name u s g i n))
  s_name_start true k u s g n = s_want (in_group u s g ∷ k) (Name n)
  s_name_start false k u s g n = λ l. refl

  s_start : (k : Stack) (u : Open) (s : ℕ) (g : Params) (x : TokenKind) → Follows (λ l. spell_stack k (spell_open u (Punct OpenParen ∷ spell_begun g l))) x (start_step can i k u s g x)
  s_start k u s g (Punct CloseParen) = s_close_at (can_fun can k) k u s g
  s_start k u s g (Name n) = s_name_start (is_reserved n) k u s g n
  s_start k u s g x = s_want (in_group u s g ∷ k) x

  s_array : (k : Stack) (u : Open) (s : ℕ) (o : Bool) (x : TokenKind) → Follows (λ l. spell_stack k (spell_open u (Name (array_name o) ∷ l))) x (array_step k u s o x)
  s_array k u s o (Punct LessThan) = λ l. refl
  s_array k u s o _ = tt

  s_name_rest : (k : Stack) (u : Open) (s : ℕ) (g : Params) (a : ℕ) (n : Bytes) (w : TypeWord) → IsWord w n → (x : TokenKind) →
      Follows (λ l. spell_stack k (spell_open u (Punct OpenParen ∷ spell_begun g (Name n ∷ l)))) x (name_rest can i k u s g a n w x)
  s_name_rest k u s g a n type_name h x = s_base (in_group u s g ∷ k) (fresh a) (base a i (name n)) no_place x
  s_name_rest k u s g a n (array_word o) h x =
      moved _ (λ l. spell_stack k (spell_open u (Punct OpenParen ∷ spell_begun g (Name n ∷ l)))) x (array_step (in_group u s g ∷ k) (fresh a) a o x)
      (λ l. ap (λ n. spell_stack k (spell_open u (Punct OpenParen ∷ spell_begun g (Name n ∷ l)))) (sym h)) (s_array (in_group u s g ∷ k) (fresh a) a o x)
  s_name_rest k u s g a n null_word h x = tt
  s_name_rest k u s g a n void_word h x = tt
  s_name_rest k u s g a n (truth_of b) h x = tt
  s_name_rest k u s g a n other_word h x = tt

  s_name : (k : Stack) (u : Open) (s : ℕ) (g : Params) (a : ℕ) (n : Bytes) (x : TokenKind) → Follows (λ l. spell_stack k (spell_open u (Punct OpenParen ∷ spell_begun g (Name n ∷ l)))) x (name_step can i k u s g a n x)
  s_name k u s g a n (Punct Question) = s_if (can_fun can k) (go k (group_mark u s g a n)) (λ l. spell_stack k (spell_open u (Punct OpenParen ∷ spell_begun g (Name n ∷ l)))) (Punct Question) (λ l. refl)
  s_name k u s g a n (Punct Colon) = s_if (can_fun can k) (go (in_named u s g a n false ∷ k) want) (λ l. spell_stack k (spell_open u (Punct OpenParen ∷ spell_begun g (Name n ∷ l)))) (Punct Colon) (λ l. refl)
  s_name k u s g a n x = s_name_rest k u s g a n (type_word n) (word_is n) x

  s_mark : (k : Stack) (u : Open) (s : ℕ) (g : Params) (a : ℕ) (n : Bytes) (x : TokenKind) → Follows (λ l. spell_stack k (spell_open u (Punct OpenParen ∷ spell_begun g (Name n ∷ Punct Question ∷ l)))) x (mark_step k u s g a n x)
  s_mark k u s g a n (Punct Colon) = λ l. refl
  s_mark k u s g a n _ = tt

  s_bracket : (k : Stack) (u : Open) (b : Base) (bs : Places) (j : ℕ) (x : TokenKind) → Follows (λ l. spell_stack k (spell_open u (spell_base b (brackets bs (Punct OpenBracket ∷ l))))) x (bracket_step k u b bs j x)
  s_bracket k u b bs j (Punct CloseBracket) = λ l. refl
  s_bracket k u b bs j _ = tt

  s_tuple : (k : Stack) (u : Open) (s : ℕ) (g : Types) (x : TokenKind) → Follows (λ l. spell_stack k (spell_open u (Punct OpenBracket ∷ spell_elements g l))) x (tuple_step i k u s g x)
  s_tuple k u s no_type (Punct CloseBracket) = λ l. refl
  s_tuple k u s (more_type g t) (Punct CloseBracket) = λ l. refl
  s_tuple k u s g x = s_want (in_tuple u s g ∷ k) x

  s_key : (k : Stack) (u : Open) (s : ℕ) (g : Props) (a : ℕ) (v : Sign) (x : TokenKind) → Follows (λ l. spell_stack k (spell_open u (Punct OpenBrace ∷ spell_rows g (spell_sign v l)))) x (key_step i k u s g a v x)
  s_key k u s g a v (Name n) = λ l. refl
  s_key k u s g a v (Str n) = λ l. refl
  s_key k u s g a v _ = tt

  s_object : (k : Stack) (u : Open) (s : ℕ) (g : Props) (x : TokenKind) → Follows (λ l. spell_stack k (spell_open u (Punct OpenBrace ∷ spell_rows g l))) x (object_step i k u s g x)
  s_object k u s no_prop (Punct CloseBrace) = λ l. refl
  s_object k u s (more_prop g p) (Punct CloseBrace) = λ l. refl
  s_object k u s g (Punct Ellipsis) = λ l. refl
  s_object k u s g (Punct Plus) = λ l. refl
  s_object k u s g (Punct Minus) = λ l. refl
  s_object k u s g x = s_key k u s g i unsigned x

  s_dots : (k : Stack) (u : Open) (s : ℕ) (g : Props) (x : TokenKind) → Follows (λ l. spell_stack k (spell_open u (Punct OpenBrace ∷ spell_rows g (Punct Ellipsis ∷ l)))) x (dots_step i k u s g x)
  s_dots k u s g (Punct CloseBrace) = λ l. refl
  s_dots k u s g _ = tt

  s_colon : (k : Stack) (u : Open) (s : ℕ) (g : Props) (a : ℕ) (v : Sign) (y : Key) (x : TokenKind) → Follows (λ l. spell_stack k (spell_open u (Punct OpenBrace ∷ spell_rows g (spell_sign v (spell_key y l))))) x (colon_step k u s g a v y x)
  s_colon k u s g a v y (Punct Question) = λ l. refl
  s_colon k u s g a v y (Punct Colon) = λ l. refl
  s_colon k u s g a v y _ = tt

  s_marked : (k : Stack) (u : Open) (s : ℕ) (g : Props) (a : ℕ) (v : Sign) (y : Key) (x : TokenKind) → Follows (λ l. spell_stack k (spell_open u (Punct OpenBrace ∷ spell_rows g (spell_sign v (spell_key y (Punct Question ∷ l)))))) x (marked_step k u s g a v y x)
  s_marked k u s g a v y (Punct Colon) = λ l. refl
  s_marked k u s g a v y _ = tt

  -- each step reads its token
  pub sound : (k : Stack) (m : Mode) (x : TokenKind) → Follows (so_far k m) x (step can i k m x)
  sound k want x = s_want k x
  sound k (want_pre u) x = s_pre k u x
  sound k (after_base u b bs) x = s_base k u b bs x
  sound k (after_bracket u b bs j) x = s_bracket k u b bs j x
  sound k (after_array u s o) x = s_array k u s o x
  sound k (group_start u s g) x = s_start k u s g x
  sound k (group_name u s g a n) x = s_name k u s g a n x
  sound k (group_mark u s g a n) x = s_mark k u s g a n x
  sound k (closed u s g c) x = s_closed k u s g c x
  sound k (tuple_start u s g) x = s_tuple k u s g x
  sound k (object_start u s g) x = s_object k u s g x
  sound k (after_dots u s g) x = s_dots k u s g x
  sound k (after_sign u s g a v) x = s_key k u s g a v x
  sound k (after_key u s g a v y) x = s_colon k u s g a v y x
  sound k (after_mark u s g a v y) x = s_marked k u s g a v y x
