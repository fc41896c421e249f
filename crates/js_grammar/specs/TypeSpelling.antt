-- The spelling of types. Each is written before the tokens that follow: `spell t l` is the tokens of t, and then l.
use Rattle.std.specs.Prelude.{Bool, true, false, List, ◌∷◌, codes}
use Rattle.js_token.specs.declared.token.TokenKind.{TokenKind}
use Rattle.js_token.specs.declared.token.TokenKind.TheVariants.{Name, Number, Str, Punct}
use Rattle.js_token.specs.declared.punct.Punct.TheVariants.{OpenBrace, CloseBrace, OpenParen, CloseParen, OpenBracket, CloseBracket, Ellipsis, Comma, Colon, Question, Arrow, LessThan, GreaterThan, Plus, Minus, Bar}
use Rattle.js_grammar.specs.Words.{array_name, truth_word}
use Rattle.js_grammar.specs.Types.{Places, no_place, more_place, Sign, unsigned, plus, minus, KeyForm, word_key, text_key, Key, key, bare, comma, dots, Ty, ty, Pres, no_pre, more_pre, Pre, pre, Core, fun, post, Base, base, Form, name, str, num, null, void, truth, array, paren, tuple, object, Params, no_param, more_param, Param, plain, named, Types, no_type, more_type, Props, no_prop, more_prop, Prop, prop}

-- the tokens' kinds, without their spans
abbrev pub Tokens : Type 0
Tokens = List TokenKind

-- a token, or none
abbrev pub opt : Bool → TokenKind → Tokens → Tokens
opt true x l = x ∷ l
opt false x l = l

-- a question mark each
abbrev pub marks : Places → Tokens → Tokens
marks no_place l = l
marks (more_place ps p) l = marks ps (Punct Question ∷ l)

-- a pair of brackets each
abbrev pub brackets : Places → Tokens → Tokens
brackets no_place l = l
brackets (more_place ps p) l = brackets ps (Punct OpenBracket ∷ Punct CloseBracket ∷ l)

-- the sign, or nothing
abbrev pub spell_sign : Sign → Tokens → Tokens
spell_sign unsigned l = l
spell_sign plus l = Punct Plus ∷ l
spell_sign minus l = Punct Minus ∷ l

-- a key is a word or a string
abbrev pub key_token : KeyForm → TokenKind
key_token (word_key w) = Name w
key_token (text_key s) = Str s

abbrev pub spell_key : Key → Tokens → Tokens
spell_key (key f t k) l = key_token k ∷ l

-- each form's tokens, and then those that follow
abbrev mutual
  pub spell : Ty → Tokens → Tokens
  spell (ty f t lead ps) l = opt lead (Punct Bar) (spell_pres ps l)

  pub spell_pres : Pres → Tokens → Tokens
  spell_pres no_pre l = l
  spell_pres (more_pre ps p) l = spell_barred ps (spell_pre p l)

  -- with a bar behind each
  pub spell_barred : Pres → Tokens → Tokens
  spell_barred no_pre l = l
  spell_barred (more_pre ps p) l = spell_barred ps (spell_pre p (Punct Bar ∷ l))

  pub spell_pre : Pre → Tokens → Tokens
  spell_pre (pre f t q c) l = marks q (spell_core c l)

  pub spell_core : Core → Tokens → Tokens
  spell_core (fun f t ps c r) l = Punct OpenParen ∷ spell_params ps (opt c (Punct Comma) (Punct CloseParen ∷ Punct Arrow ∷ spell r l))
  spell_core (post f t b bs) l = spell_base b (brackets bs l)

  pub spell_base : Base → Tokens → Tokens
  spell_base (base f t x) l = spell_form x l

  pub spell_form : Form → Tokens → Tokens
  spell_form (name n) l = Name n ∷ l
  spell_form (str s) l = Str s ∷ l
  spell_form (num n) l = Number n ∷ l
  spell_form null l = Name (codes "null") ∷ l
  spell_form void l = Name (codes "void") ∷ l
  spell_form (truth b) l = Name (truth_word b) ∷ l
  spell_form (array o t) l = Name (array_name o) ∷ Punct LessThan ∷ spell t (Punct GreaterThan ∷ l)
  spell_form (paren t) l = Punct OpenParen ∷ spell t (Punct CloseParen ∷ l)
  spell_form (tuple ts c) l = Punct OpenBracket ∷ spell_types ts (opt c (Punct Comma) (Punct CloseBracket ∷ l))
  spell_form (object ps bare) l = Punct OpenBrace ∷ spell_props ps (Punct CloseBrace ∷ l)
  spell_form (object ps comma) l = Punct OpenBrace ∷ spell_rows ps (Punct CloseBrace ∷ l)
  spell_form (object ps dots) l = Punct OpenBrace ∷ spell_rows ps (Punct Ellipsis ∷ Punct CloseBrace ∷ l)

  pub spell_params : Params → Tokens → Tokens
  spell_params no_param l = l
  spell_params (more_param ps p) l = spell_begun ps (spell_param p l)

  -- with a comma behind each
  pub spell_begun : Params → Tokens → Tokens
  spell_begun no_param l = l
  spell_begun (more_param ps p) l = spell_begun ps (spell_param p (Punct Comma ∷ l))

  pub spell_param : Param → Tokens → Tokens
  spell_param (plain t) l = spell t l
  spell_param (named f e n o t) l = Name n ∷ opt o (Punct Question) (Punct Colon ∷ spell t l)

  pub spell_types : Types → Tokens → Tokens
  spell_types no_type l = l
  spell_types (more_type ts t) l = spell_elements ts (spell t l)

  -- with a comma behind each
  pub spell_elements : Types → Tokens → Tokens
  spell_elements no_type l = l
  spell_elements (more_type ts t) l = spell_elements ts (spell t (Punct Comma ∷ l))

  pub spell_props : Props → Tokens → Tokens
  spell_props no_prop l = l
  spell_props (more_prop ps p) l = spell_rows ps (spell_prop p l)

  -- with a comma behind each
  pub spell_rows : Props → Tokens → Tokens
  spell_rows no_prop l = l
  spell_rows (more_prop ps p) l = spell_rows ps (spell_prop p (Punct Comma ∷ l))

  pub spell_prop : Prop → Tokens → Tokens
  spell_prop (prop f t s k o v) l = spell_sign s (spell_key k (opt o (Punct Question) (Punct Colon ∷ spell v l)))
