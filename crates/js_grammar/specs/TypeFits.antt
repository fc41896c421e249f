-- Which trees of types are of the grammar, with the numbers of their tokens' places.
use Rattle.std.specs.Prelude.{◌≡◌, ℕ, suc, Bool, true, false}
use Rattle.js_grammar.specs.Words.{IsName, IsTypeName, is_type_number}
use Rattle.js_grammar.specs.Types.{Places, no_place, more_place, Sign, unsigned, plus, minus, Key, key, Ending, bare, comma, dots, Ty, ty, Pres, no_pre, more_pre, Pre, pre, Core, fun, post, Base, base, Form, name, str, num, null, void, truth, array, paren, tuple, object, Params, no_param, more_param, Param, plain, named, Types, no_type, more_type, Props, no_prop, more_prop, Prop, prop, has_params, has_types, has_props, is_fun_pre}

-- one place on, where the token stands
abbrev pub bump : Bool → ℕ → ℕ
bump true i = suc i
bump false i = i

-- the place behind question marks in a row
abbrev pub stop_marks : Places → ℕ → ℕ
stop_marks no_place i = i
stop_marks (more_place ps p) i = suc (stop_marks ps i)

-- behind pairs of brackets in a row
abbrev pub stop_brackets : Places → ℕ → ℕ
stop_brackets no_place i = i
stop_brackets (more_place ps p) i = suc (suc (stop_brackets ps i))

-- behind a sign or none
abbrev pub stop_sign : Sign → ℕ → ℕ
stop_sign unsigned i = i
stop_sign plus i = suc i
stop_sign minus i = suc i

-- the place behind a form that begins at a place
abbrev mutual
  pub stop : Ty → ℕ → ℕ
  stop (ty f t lead ps) i = stop_pres ps (bump lead i)

  pub stop_pres : Pres → ℕ → ℕ
  stop_pres no_pre i = i
  stop_pres (more_pre ps p) i = stop_pre p (stop_barred ps i)

  -- behind members with a bar behind each
  pub stop_barred : Pres → ℕ → ℕ
  stop_barred no_pre i = i
  stop_barred (more_pre ps p) i = suc (stop_pre p (stop_barred ps i))

  pub stop_pre : Pre → ℕ → ℕ
  stop_pre (pre f t q c) i = stop_core c (stop_marks q i)

  pub stop_core : Core → ℕ → ℕ
  stop_core (fun f t ps c r) i = stop r (suc (suc (bump c (stop_params ps (suc i)))))
  stop_core (post f t b bs) i = stop_brackets bs (stop_base b i)

  pub stop_base : Base → ℕ → ℕ
  stop_base (base f t x) i = stop_form x i

  pub stop_form : Form → ℕ → ℕ
  stop_form (name n) i = suc i
  stop_form (str s) i = suc i
  stop_form (num n) i = suc i
  stop_form null i = suc i
  stop_form void i = suc i
  stop_form (truth b) i = suc i
  stop_form (array o t) i = suc (stop t (suc (suc i)))
  stop_form (paren t) i = suc (stop t (suc i))
  stop_form (tuple ts c) i = suc (bump c (stop_types ts (suc i)))
  stop_form (object ps bare) i = suc (stop_props ps (suc i))
  stop_form (object ps comma) i = suc (stop_rows ps (suc i))
  stop_form (object ps dots) i = suc (suc (stop_rows ps (suc i)))

  pub stop_params : Params → ℕ → ℕ
  stop_params no_param i = i
  stop_params (more_param ps p) i = stop_param p (stop_begun ps i)

  -- behind parameters with a comma behind each
  pub stop_begun : Params → ℕ → ℕ
  stop_begun no_param i = i
  stop_begun (more_param ps p) i = suc (stop_param p (stop_begun ps i))

  pub stop_param : Param → ℕ → ℕ
  stop_param (plain t) i = stop t i
  stop_param (named f e n o t) i = stop t (suc (bump o (suc i)))

  pub stop_types : Types → ℕ → ℕ
  stop_types no_type i = i
  stop_types (more_type ts t) i = stop t (stop_elements ts i)

  -- behind types with a comma behind each
  pub stop_elements : Types → ℕ → ℕ
  stop_elements no_type i = i
  stop_elements (more_type ts t) i = suc (stop t (stop_elements ts i))

  pub stop_props : Props → ℕ → ℕ
  stop_props no_prop i = i
  stop_props (more_prop ps p) i = stop_prop p (stop_rows ps i)

  -- behind properties with a comma behind each
  pub stop_rows : Props → ℕ → ℕ
  stop_rows no_prop i = i
  stop_rows (more_prop ps p) i = suc (stop_prop p (stop_rows ps i))

  pub stop_prop : Prop → ℕ → ℕ
  stop_prop (prop f t s k o v) i = stop v (suc (bump o (suc (stop_sign s i))))

-- the numbers of the marks in a row are the places where they stand
abbrev pub FitsMarks : Places → ℕ → Type 0
FitsMarks no_place i = Unit {0}
FitsMarks (more_place ps p) i = FitsMarks ps i × (p ≡ stop_marks ps i)

-- those of pairs of brackets, the places of the first of each pair
abbrev pub FitsBrackets : Places → ℕ → Type 0
FitsBrackets no_place i = Unit {0}
FitsBrackets (more_place ps p) i = FitsBrackets ps i × (p ≡ stop_brackets ps i)

-- the key is the one token at place i
abbrev pub FitsKey : Key → ℕ → Type 0
FitsKey (key f t k) i = (f ≡ i) × (t ≡ suc i)

-- a last comma stands behind something
abbrev pub CommaFits : Bool → Bool → Type 0
CommaFits c some = c ≡ true → some ≡ true

-- a last comma stands behind a property
abbrev pub EndingFits : Ending → Bool → Type 0
EndingFits bare some = Unit {0}
EndingFits comma some = some ≡ true
EndingFits dots some = Unit {0}

-- A form that begins at place i keeps the grammar's conditions, and its numbers are the places of its tokens. A union has a
-- member, and only its last may be a function type outside brackets.
abbrev mutual
  pub Fits : Ty → ℕ → Type 0
  Fits (ty f t lead ps) i = (f ≡ i) × (t ≡ stop_pres ps (bump lead i)) × FitsPres ps (bump lead i)

  -- the members of a union: at least one, and none but the last a function type outside brackets
  pub FitsPres : Pres → ℕ → Type 0
  FitsPres no_pre i = ⊥
  FitsPres (more_pre ps p) i = FitsBarred ps i × FitsPre p (stop_barred ps i)

  -- the members before a bar: none is a function type outside brackets
  pub FitsBarred : Pres → ℕ → Type 0
  FitsBarred no_pre i = Unit {0}
  FitsBarred (more_pre ps p) i = FitsBarred ps i × FitsPre p (stop_barred ps i) × (is_fun_pre p ≡ false)

  pub FitsPre : Pre → ℕ → Type 0
  FitsPre (pre f t q c) i = (f ≡ i) × (t ≡ stop_core c (stop_marks q i)) × FitsMarks q i × FitsCore c (stop_marks q i)

  pub FitsCore : Core → ℕ → Type 0
  FitsCore (fun f t ps c r) i =
      (f ≡ i) × (t ≡ stop r (suc (suc (bump c (stop_params ps (suc i)))))) × FitsParams ps (suc i) × CommaFits c (has_params ps)
      × Fits r (suc (suc (bump c (stop_params ps (suc i)))))
  FitsCore (post f t b bs) i = (f ≡ i) × (t ≡ stop_brackets bs (stop_base b i)) × FitsBase b i × FitsBrackets bs (stop_base b i)

  pub FitsBase : Base → ℕ → Type 0
  FitsBase (base f t x) i = (f ≡ i) × (t ≡ stop_form x i) × FitsForm x i

  -- a name may stand alone as a type, and a number is one of those that may
  pub FitsForm : Form → ℕ → Type 0
  FitsForm (name n) i = IsTypeName n
  FitsForm (str s) i = Unit {0}
  FitsForm (num n) i = is_type_number n ≡ true
  FitsForm null i = Unit {0}
  FitsForm void i = Unit {0}
  FitsForm (truth b) i = Unit {0}
  FitsForm (array o t) i = Fits t (suc (suc i))
  FitsForm (paren t) i = Fits t (suc i)
  FitsForm (tuple ts c) i = FitsTypes ts (suc i) × CommaFits c (has_types ts)
  FitsForm (object ps e) i = FitsProps ps (suc i) × EndingFits e (has_props ps)

  pub FitsParams : Params → ℕ → Type 0
  FitsParams no_param i = Unit {0}
  FitsParams (more_param ps p) i = FitsParams ps i × FitsParam p (stop_begun ps i)

  pub FitsParam : Param → ℕ → Type 0
  FitsParam (plain t) i = Fits t i
  FitsParam (named f e n o t) i = (f ≡ i) × (e ≡ stop t (suc (bump o (suc i)))) × IsName n × Fits t (suc (bump o (suc i)))

  pub FitsTypes : Types → ℕ → Type 0
  FitsTypes no_type i = Unit {0}
  FitsTypes (more_type ts t) i = FitsTypes ts i × Fits t (stop_elements ts i)

  pub FitsProps : Props → ℕ → Type 0
  FitsProps no_prop i = Unit {0}
  FitsProps (more_prop ps p) i = FitsProps ps i × FitsProp p (stop_rows ps i)

  pub FitsProp : Prop → ℕ → Type 0
  FitsProp (prop f t s k o v) i =
      (f ≡ i) × (t ≡ stop v (suc (bump o (suc (stop_sign s i))))) × FitsKey k (stop_sign s i) × Fits v (suc (bump o (suc (stop_sign s i))))
