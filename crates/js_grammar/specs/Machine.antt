-- Reading a type token by token: what has been read so far is a stack of open forms and a mode.
use Rattle.std.specs.Prelude.{ℕ, suc, Bool, true, false, List, [], ◌∷◌, codes, if◌then◌else◌}
use Rattle.std.specs.Str.{bytes_eq}
use Rattle.js_token.specs.Words.{is_reserved}
use Rattle.js_token.specs.declared.token.TokenKind.{TokenKind}
use Rattle.js_token.specs.declared.token.TokenKind.TheVariants.{Name, Number, Str, Punct}
use Rattle.js_token.specs.declared.punct.Punct.TheVariants.{OpenBrace, CloseBrace, OpenParen, CloseParen, OpenBracket, CloseBracket, Ellipsis, Comma, Colon, Question, Arrow, LessThan, GreaterThan, Plus, PlusPlus, Minus, Bar}
use Rattle.js_grammar.specs.Words.{Bytes, array_name, is_type_number}
use Rattle.js_grammar.specs.Types.{Places, no_place, more_place, Sign, unsigned, plus, minus, word_key, text_key, Key, key, Ending, bare, comma, dots, Ty, ty, Pres, no_pre, more_pre, pre, Core, fun, post, Base, base, name, str, num, null, void, truth, array, paren, tuple, object, Params, no_param, more_param, plain, named, Types, no_type, more_type, Props, no_prop, more_prop, prop, has_types}
use Rattle.js_grammar.specs.TypeSpelling.{Tokens}

-- what a word is where a type may begin
pub data TypeWord : Type 0 where
  type_name : TypeWord
  null_word : TypeWord
  void_word : TypeWord
  truth_of : Bool → TypeWord
  array_word : Bool → TypeWord
  other_word : TypeWord

-- what a reserved word is there
abbrev pub reserved_word : Bytes → TypeWord
reserved_word n =
    if bytes_eq n (codes "null") then null_word
    else if bytes_eq n (codes "void") then void_word
    else if bytes_eq n (codes "true") then truth_of true
    else if bytes_eq n (codes "false") then truth_of false
    else other_word

-- what any word is there
abbrev pub type_word : Bytes → TypeWord
type_word n =
    if is_reserved n then reserved_word n
    else if bytes_eq n (array_name false) then array_word false
    else if bytes_eq n (array_name true) then array_word true
    else type_name

-- An open union: where it begins, its leading bar, its members, each with a bar behind it, where the next one begins, and
-- the question marks of that.
pub data Open : Type 0 where
  open_at : ℕ → Bool → Pres → ℕ → Places → Open

-- A form that waits for a type, with the place where it begins.
pub data Frame : Type 0 where
  in_array : Open → ℕ → Bool → Frame
  in_group : Open → ℕ → Params → Frame
  in_named : Open → ℕ → Params → ℕ → Bytes → Bool → Frame
  in_result : Open → ℕ → Params → Bool → Frame
  in_tuple : Open → ℕ → Types → Frame
  in_prop : Open → ℕ → Props → ℕ → Sign → Key → Bool → Frame

-- What may come next. A name in a group may be a parameter's or a type: the token behind it tells.
pub data Mode : Type 0 where
  want : Mode
  want_pre : Open → Mode
  after_base : Open → Base → Places → Mode
  after_bracket : Open → Base → Places → ℕ → Mode
  after_array : Open → ℕ → Bool → Mode
  group_start : Open → ℕ → Params → Mode
  group_name : Open → ℕ → Params → ℕ → Bytes → Mode
  group_mark : Open → ℕ → Params → ℕ → Bytes → Mode
  closed : Open → ℕ → Params → Bool → Mode
  tuple_start : Open → ℕ → Types → Mode
  object_start : Open → ℕ → Props → Mode
  after_dots : Open → ℕ → Props → Mode
  after_sign : Open → ℕ → Props → ℕ → Sign → Mode
  after_key : Open → ℕ → Props → ℕ → Sign → Key → Mode
  after_mark : Open → ℕ → Props → ℕ → Sign → Key → Mode

-- the forms that are open, the innermost first
abbrev pub Stack : Type 0
Stack = List Frame

-- the token is no part of a type here; the token is read; the type ended before the token
pub data Step : Type 0 where
  fault : Step
  go : Stack → Mode → Step
  done : Ty → Step

-- no form has this mark, and so it stands for the end of the tokens
abbrev pub end_mark : TokenKind
end_mark = Punct PlusPlus

-- whether a function type may stand here outside brackets
abbrev pub can_fun : Bool → Stack → Bool
can_fun can [] = can
can_fun can (f ∷ k) = true

-- a union without a leading bar, that begins at this place
abbrev pub fresh : ℕ → Open
fresh i = open_at i false no_pre i no_place

-- where a base begins
abbrev pub start_base : Base → ℕ
start_base (base f t x) = f

-- the whole union, whose last member this core ends before place i
abbrev pub finish : ℕ → Open → Core → Ty
finish i (open_at f lead m p q) c = ty f i lead (more_pre m (pre p i q c))

-- Each form behind a whole part of it: the token, at place i, ends the form, or a further part begins.
abbrev pub after_param : Bool → Stack → Open → ℕ → Params → TokenKind → Step
after_param can k u s g (Punct CloseParen) = go k (closed u s g false)
after_param can k u s g (Punct Comma) = if can then go k (group_start u s g) else fault
after_param can k u s g _ = fault

-- behind an element of a tuple
abbrev pub after_type : ℕ → Stack → Open → ℕ → Types → TokenKind → Step
after_type i k u s g (Punct CloseBracket) = go k (after_base u (base s (suc i) (tuple g false)) no_place)
after_type i k u s g (Punct Comma) = go k (tuple_start u s g)
after_type i k u s g _ = fault

-- behind the element type of an array
abbrev pub after_element : ℕ → Stack → Open → ℕ → Bool → Ty → TokenKind → Step
after_element i k u s o t (Punct GreaterThan) = go k (after_base u (base s (suc i) (array o t)) no_place)
after_element i k u s o t _ = fault

-- behind a property of an object
abbrev pub after_prop : ℕ → Stack → Open → ℕ → Props → TokenKind → Step
after_prop i k u s g (Punct CloseBrace) = go k (after_base u (base s (suc i) (object g bare)) no_place)
after_prop i k u s g (Punct Comma) = go k (object_start u s g)
after_prop i k u s g _ = fault

-- a type is whole, and the token comes after it
abbrev pub give : Bool → ℕ → Stack → Ty → TokenKind → Step
give can i [] t x = done t
give can i (in_array u s o ∷ k) t x = after_element i k u s o t x
give can i (in_group u s g ∷ k) t x = after_param (can_fun can k) k u s (more_param g (plain t)) x
give can i (in_named u s g a n o ∷ k) t x = after_param (can_fun can k) k u s (more_param g (named a i n o t)) x
give can i (in_result u s g c ∷ k) t x = give can i k (finish i u (fun s i g c t)) x
give can i (in_tuple u s g ∷ k) t x = after_type i k u s (more_type g t) x
give can i (in_prop u s g a v y o ∷ k) t x = after_prop i k u s (more_prop g (prop a i v y o t)) x

-- behind a member of a union
abbrev pub after_pres : Bool → ℕ → Stack → ℕ → Bool → Pres → TokenKind → Step
after_pres can i k f lead m (Punct Bar) = go k (want_pre (open_at f lead m (suc i) no_place))
after_pres can i k f lead m x = give can i k (ty f i lead m) x

-- behind a member that is whole with this core
abbrev pub after_core : Bool → ℕ → Stack → Open → Core → TokenKind → Step
after_core can i k (open_at f lead m p q) c x = after_pres can i k f lead (more_pre m (pre p i q c)) x

-- behind a base and its brackets: one more pair opens, or the member is whole
abbrev pub base_step : Bool → ℕ → Stack → Open → Base → Places → TokenKind → Step
base_step can i k u b bs (Punct OpenBracket) = go k (after_bracket u b bs i)
base_step can i k u b bs x = after_core can i k u (post (start_base b) i b bs) x

-- a word where a member of a union may begin
abbrev pub word_step : ℕ → Stack → Open → Bytes → TypeWord → Step
word_step i k u n type_name = go k (after_base u (base i (suc i) (name n)) no_place)
word_step i k u n null_word = go k (after_base u (base i (suc i) null) no_place)
word_step i k u n void_word = go k (after_base u (base i (suc i) void) no_place)
word_step i k u n (truth_of b) = go k (after_base u (base i (suc i) (truth b)) no_place)
word_step i k u n (array_word o) = go k (after_array u i o)
word_step i k u n other_word = fault

-- where a member of a union may begin
abbrev pub pre_step : ℕ → Stack → Open → TokenKind → Step
pre_step i k (open_at f lead m p q) (Punct Question) = go k (want_pre (open_at f lead m p (more_place q i)))
pre_step i k u (Name n) = word_step i k u n (type_word n)
pre_step i k u (Str s) = go k (after_base u (base i (suc i) (str s)) no_place)
pre_step i k u (Number n) = if is_type_number n then go k (after_base u (base i (suc i) (num n)) no_place) else fault
pre_step i k u (Punct OpenParen) = go k (group_start u i no_param)
pre_step i k u (Punct OpenBracket) = go k (tuple_start u i no_type)
pre_step i k u (Punct OpenBrace) = go k (object_start u i no_prop)
pre_step i k u (Punct _) = fault

-- where a type may begin, a bar before it or not
abbrev pub want_step : ℕ → Stack → TokenKind → Step
want_step i k (Punct Bar) = go k (want_pre (open_at i true no_pre (suc i) no_place))
want_step i k x = pre_step i k (fresh i) x

-- behind `[` that stands behind a base
abbrev pub bracket_step : Stack → Open → Base → Places → ℕ → TokenKind → Step
bracket_step k u b bs j (Punct CloseBracket) = go k (after_base u b (more_place bs j))
bracket_step k u b bs j _ = fault

-- behind the name of an array type
abbrev pub array_step : Stack → Open → ℕ → Bool → TokenKind → Step
array_step k u s o (Punct LessThan) = go (in_array u s o ∷ k) want
array_step k u s o _ = fault

-- an empty group is a function type's
abbrev pub close_at : Bool → Stack → Open → ℕ → Params → Step
close_at can k u s no_param = if can then go k (closed u s no_param false) else fault
close_at can k u s (more_param g p) = go k (closed u s (more_param g p) true)

-- behind `(`, or a comma in a group
abbrev pub start_step : Bool → ℕ → Stack → Open → ℕ → Params → TokenKind → Step
start_step can i k u s g (Punct CloseParen) = close_at (can_fun can k) k u s g
start_step can i k u s g (Name n) = if is_reserved n then want_step i (in_group u s g ∷ k) (Name n) else go k (group_name u s g i n)
start_step can i k u s g x = want_step i (in_group u s g ∷ k) x

-- a token behind a name, at place a, that is a type
abbrev pub name_rest : Bool → ℕ → Stack → Open → ℕ → Params → ℕ → Bytes → TypeWord → TokenKind → Step
name_rest can i k u s g a n type_name x = base_step can i (in_group u s g ∷ k) (fresh a) (base a i (name n)) no_place x
name_rest can i k u s g a n (array_word o) x = array_step (in_group u s g ∷ k) (fresh a) a o x
name_rest can i k u s g a n w x = fault

-- behind a name in a group
abbrev pub name_step : Bool → ℕ → Stack → Open → ℕ → Params → ℕ → Bytes → TokenKind → Step
name_step can i k u s g a n (Punct Question) = if can_fun can k then go k (group_mark u s g a n) else fault
name_step can i k u s g a n (Punct Colon) = if can_fun can k then go (in_named u s g a n false ∷ k) want else fault
name_step can i k u s g a n x = name_rest can i k u s g a n (type_word n) x

-- behind a name and `?` in a group
abbrev pub mark_step : Stack → Open → ℕ → Params → ℕ → Bytes → TokenKind → Step
mark_step k u s g a n (Punct Colon) = go (in_named u s g a n true ∷ k) want
mark_step k u s g a n _ = fault

-- parentheses round one type, or no type at all
abbrev pub single : Bool → ℕ → Stack → Open → ℕ → Params → Bool → TokenKind → Step
single can i k u s (more_param no_param (plain t)) false x = base_step can i k u (base s i (paren t)) no_place x
single can i k u s _ _ x = fault

-- behind the `)` of a group
abbrev pub closed_step : Bool → ℕ → Stack → Open → ℕ → Params → Bool → TokenKind → Step
closed_step can i k u s g c (Punct Arrow) = if can_fun can k then go (in_result u s g c ∷ k) want else single can i k u s g c (Punct Arrow)
closed_step can i k u s g c x = single can i k u s g c x

-- behind `[`, or a comma in a tuple
abbrev pub tuple_step : ℕ → Stack → Open → ℕ → Types → TokenKind → Step
tuple_step i k u s g (Punct CloseBracket) = go k (after_base u (base s (suc i) (tuple g (has_types g))) no_place)
tuple_step i k u s g x = want_step i (in_tuple u s g ∷ k) x

-- where a property might begin and none does, the last one has a comma behind it
abbrev pub ending_of : Props → Ending
ending_of no_prop = bare
ending_of (more_prop ps p) = comma

-- where a key must stand, behind a sign or none
abbrev pub key_step : ℕ → Stack → Open → ℕ → Props → ℕ → Sign → TokenKind → Step
key_step i k u s g a v (Name n) = go k (after_key u s g a v (key i (suc i) (word_key n)))
key_step i k u s g a v (Str n) = go k (after_key u s g a v (key i (suc i) (text_key n)))
key_step i k u s g a v _ = fault

-- behind `{`, or a comma in an object
abbrev pub object_step : ℕ → Stack → Open → ℕ → Props → TokenKind → Step
object_step i k u s g (Punct CloseBrace) = go k (after_base u (base s (suc i) (object g (ending_of g))) no_place)
object_step i k u s g (Punct Ellipsis) = go k (after_dots u s g)
object_step i k u s g (Punct Plus) = go k (after_sign u s g i plus)
object_step i k u s g (Punct Minus) = go k (after_sign u s g i minus)
object_step i k u s g x = key_step i k u s g i unsigned x

-- behind `...` in an object
abbrev pub dots_step : ℕ → Stack → Open → ℕ → Props → TokenKind → Step
dots_step i k u s g (Punct CloseBrace) = go k (after_base u (base s (suc i) (object g dots)) no_place)
dots_step i k u s g _ = fault

-- behind a key
abbrev pub colon_step : Stack → Open → ℕ → Props → ℕ → Sign → Key → TokenKind → Step
colon_step k u s g a v y (Punct Question) = go k (after_mark u s g a v y)
colon_step k u s g a v y (Punct Colon) = go (in_prop u s g a v y false ∷ k) want
colon_step k u s g a v y _ = fault

-- behind a key and `?`
abbrev pub marked_step : Stack → Open → ℕ → Props → ℕ → Sign → Key → TokenKind → Step
marked_step k u s g a v y (Punct Colon) = go (in_prop u s g a v y true ∷ k) want
marked_step k u s g a v y _ = fault

-- what a token at a place does in a state
abbrev pub step : Bool → ℕ → Stack → Mode → TokenKind → Step
step can i k want x = want_step i k x
step can i k (want_pre u) x = pre_step i k u x
step can i k (after_base u b bs) x = base_step can i k u b bs x
step can i k (after_bracket u b bs j) x = bracket_step k u b bs j x
step can i k (after_array u s o) x = array_step k u s o x
step can i k (group_start u s g) x = start_step can i k u s g x
step can i k (group_name u s g a n) x = name_step can i k u s g a n x
step can i k (group_mark u s g a n) x = mark_step k u s g a n x
step can i k (closed u s g c) x = closed_step can i k u s g c x
step can i k (tuple_start u s g) x = tuple_step i k u s g x
step can i k (object_start u s g) x = object_step i k u s g x
step can i k (after_dots u s g) x = dots_step i k u s g x
step can i k (after_sign u s g a v) x = key_step i k u s g a v x
step can i k (after_key u s g a v y) x = colon_step k u s g a v y x
step can i k (after_mark u s g a v y) x = marked_step k u s g a v y x

-- how reading ends, and the tokens that are left then
pub data Outcome : Type 0 where
  faulty : Tokens → Outcome
  whole : Ty → Tokens → Outcome

-- how reading goes on behind a step, where these tokens are left
abbrev pub resume : (Stack → Mode → Outcome) → Step → Tokens → Outcome
resume r fault l = faulty l
resume r (go k m) l = r k m
resume r (done t) l = whole t l

-- reading from a state on, where the end of the tokens is read as a token of its own
abbrev pub run : Bool → ℕ → Stack → Mode → Tokens → Outcome
run can i k m [] = resume (λ k m. faulty []) (step can i k m end_mark) []
run can i k m (x ∷ l) = resume (λ k m. run can (suc i) k m l) (step can i k m x) (x ∷ l)

-- reading of a type from the tokens' front, the first of which stands at a place
abbrev pub read_tokens : Bool → ℕ → Tokens → Outcome
read_tokens can i l = run can i [] want l

-- the first token, or the end
abbrev pub first : Tokens → TokenKind
first [] = end_mark
first (x ∷ l) = x

-- reading from a step on, where the first of these tokens was its token
abbrev pub go_on : Bool → ℕ → Step → Tokens → Outcome
go_on can i s [] = resume (λ k m. faulty []) s []
go_on can i s (x ∷ l) = resume (λ k m. run can (suc i) k m l) s (x ∷ l)
