-- Each open form can be closed: some tokens lead from a state whose stack waits for what it has to a whole module.
use Rattle.std.proofs.Common.{◌≡◌, refl, ℕ, suc, [], ◌∷◌}
use Rattle.js_token.specs.declared.token.TokenKind.{TokenKind}
use Rattle.js_token.specs.declared.token.TokenKind.TheVariants.{Number, Punct}
use Rattle.js_token.specs.declared.punct.Punct.TheVariants.{OpenBrace, CloseBrace, CloseParen, CloseBracket, Semicolon, Colon}
use Rattle.js_grammar.specs.TypeSpelling.{Tokens}
use Rattle.js_grammar.specs.Code.{Ex, ex, number, parens, prefixed, chain, cond, arrow, arrow_value, more_operand, operand, right_side, more_arm, arm, Block, block, Stmt, Stmts, no_stmt, more_stmt, function, Function, Declaration, declaration, Simple, simple, Links, no_link, more_link, link, index, Branches}
use Rattle.js_grammar.specs.Items.{Items}
use Rattle.code_law.specs.Frames.{array_row, call_row, FunctionKind, is_value, is_statement, is_default, in_prefix, in_chain, in_last, in_branch, in_parens, in_row, in_index, in_field, in_arrow, in_body, in_simple, in_declaration, in_if_test, in_loop_test, in_if, in_else, in_loop, in_function, in_block, in_item, in_default, Mode, want, after_links, settled, statements_start, want_body, after_branch, items_start, Stack, Step, fault, go, done, done_items, start_ex, start_sig}
use Rattle.code_law.specs.Bodies.{give_stmt, give_declaration, give_function, give_block, end_simple, verb_form}
use Rattle.code_law.specs.Ladder.{close}
use Rattle.code_law.specs.Expressions.{linked}
use Rattle.code_law.specs.Machine.{step, whole_items, resume, run}
use Rattle.code_law.proofs.Shapes.{value_hole, simple_hole, statement_hole, block_hole, named_hole, default_hole, item_hole, Takes}

-- some tokens lead from the state to a whole module
abbrev pub Completes : ℕ → Stack → Mode → Type 0
Completes i k m = (w : Tokens) × (is : Items) × (run i k m w ≡ whole_items is [])

-- the same of a step, behind which the place is i
abbrev pub Goes : ℕ → Step → Type 0
Goes i (go k m) = Completes i k m
Goes i s = ⊥

pub resumed : (i : ℕ) (s : Step) (x : TokenKind) → Goes (suc i) s → (w : Tokens) × (is : Items) × (resume (λ k m. run (suc i) k m w) s (x ∷ w) ≡ whole_items is [])
resumed i (go k m) x g = g
resumed i fault x g = absurd g
resumed i (done e) x g = absurd g
resumed i (done_items is) x g = absurd g

-- the token leads on
pub by_token : (i : ℕ) (k : Stack) (m : Mode) (x : TokenKind) → Goes (suc i) (step i k m x) → Completes i k m
by_token i k m x g = let r = resumed i (step i k m x) x g in (x ∷ r.0, r.1, r.2)

-- a token that ends an expression
pub data Closer : Type 0 where
  by_paren : Closer
  by_bracket : Closer
  by_brace : Closer
  by_colon : Closer
  by_semicolon : Closer

abbrev pub closer : Closer → TokenKind
closer by_paren = Punct CloseParen
closer by_bracket = Punct CloseBracket
closer by_brace = Punct CloseBrace
closer by_colon = Punct Colon
closer by_semicolon = Punct Semicolon

-- a token closes each expression under the stack, and more tokens complete what comes of it
abbrev pub Closes : Stack → Type 0
Closes k = (c : Closer) × ((i : ℕ) (e : Ex) → Goes (suc i) (close i k e (closer c)))

-- each block, or each function, that is given to the stack can be completed
abbrev TakesBlock : Stack → Type 0
TakesBlock k = (i : ℕ) (b : Block) → Goes i (give_block i k b)

abbrev TakesFunction : FunctionKind → Stack → Type 0
TakesFunction q k = (i : ℕ) (f : Function) → Goes i (give_function i k q f)

pub after_closed : (k : Stack) → Closes k → (i : ℕ) (b : Ex) (ls : Links) → Completes i k (after_links b ls)
after_closed k (by_paren, f) i b ls = by_token i k (after_links b ls) (Punct CloseParen) (f i (linked i b ls))
after_closed k (by_bracket, f) i b ls = by_token i k (after_links b ls) (Punct CloseBracket) (f i (linked i b ls))
after_closed k (by_brace, f) i b ls = by_token i k (after_links b ls) (Punct CloseBrace) (f i (linked i b ls))
after_closed k (by_colon, f) i b ls = by_token i k (after_links b ls) (Punct Colon) (f i (linked i b ls))
after_closed k (by_semicolon, f) i b ls = by_token i k (after_links b ls) (Punct Semicolon) (f i (linked i b ls))

pub settles : (k : Stack) → Closes k → (i : ℕ) (e : Ex) → Completes i k (settled e)
settles k (by_paren, f) i e = by_token i k (settled e) (Punct CloseParen) (f i e)
settles k (by_bracket, f) i e = by_token i k (settled e) (Punct CloseBracket) (f i e)
settles k (by_brace, f) i e = by_token i k (settled e) (Punct CloseBrace) (f i e)
settles k (by_colon, f) i e = by_token i k (settled e) (Punct Colon) (f i e)
settles k (by_semicolon, f) i e = by_token i k (settled e) (Punct Semicolon) (f i e)

-- where an expression may begin, a number does
pub wants : (k : Stack) → Closes k → (i : ℕ) → Completes i k want
wants k h i = by_token i k want (Number []) (after_closed k h (suc i) (ex i (suc i) (number [])) no_link)

pub statements : (k : Stack) → TakesBlock k → (i s : ℕ) (ss : Stmts) → Completes i k (statements_start s ss)
statements k h i s ss = by_token i k (statements_start s ss) (Punct CloseBrace) (h (suc i) (block s (suc i) ss))

pub bodies : (k : Stack) → TakesBlock k → (i : ℕ) → Completes i k want_body
bodies k h i = by_token i k want_body (Punct OpenBrace) (statements k h (suc i) i no_stmt)

-- the items so far are a module
pub items : (k : Stack) → Takes item_hole k → (i : ℕ) (is : Items) → Completes i k (items_start is)
items [] h i is = ([], is, refl)
items (f ∷ k) h i is = absurd h

value_functions : (k : Stack) → Takes value_hole k → Closes k → TakesFunction is_value k
value_functions (in_item a w is ∷ k) h c i f = absurd h
value_functions k h c i f = after_closed k c i _ _

default_functions : (k : Stack) → Takes default_hole k → TakesFunction is_default k
default_functions (in_item a w is ∷ k) h i f = items k h i _
default_functions k h i f = absurd h

mutual
  pub closes : (k : Stack) → Takes value_hole k → Closes k
  closes (in_prefix s ps ∷ k) h = let r = closes k h in (r.0, λ i e. r.1 i (ex s i (prefixed ps e)))
  closes (in_chain s p f os d o ∷ k) h = let r = closes k h in (r.0, λ i e. r.1 i (ex s i (chain p f (more_operand os (operand d i (right_side o e))))))
  closes (in_last s hs ∷ k) h = let r = closes k h in (r.0, λ i e. r.1 i (ex s i (cond hs e)))
  closes (in_arrow g ∷ k) h = let r = closes k h in (r.0, λ i e. r.1 i (ex (start_sig g) i (arrow g (arrow_value e))))
  closes (in_branch s hs a ∷ k) h = let r = closes k h in (by_colon, λ i e. wants (in_last s (more_arm hs (arm (start_ex a) (suc i) a e)) ∷ k) (r.0, λ j u. r.1 j (ex s j (cond (more_arm hs (arm (start_ex a) (suc i) a e)) u))) (suc i))
  closes (in_parens s ∷ k) h = (by_paren, λ i e. after_closed k (closes k h) (suc i) (ex s (suc i) (parens e)) no_link)
  closes (in_row (array_row s) es ∷ k) h = (by_bracket, λ i e. after_closed k (closes k h) (suc i) _ _)
  closes (in_row (call_row b ls s) es ∷ k) h = (by_paren, λ i e. after_closed k (closes k h) (suc i) _ _)
  closes (in_index b ls s ∷ k) h = (by_bracket, λ i e. after_closed k (closes k h) (suc i) b (more_link ls (link s (suc i) (index e))))
  closes (in_field s fs y ∷ k) h = (by_brace, λ i e. after_closed k (closes k h) (suc i) _ _)
  closes (in_simple s v ∷ k) h = (by_semicolon, λ i e. simples k h i (simple s i (verb_form v e)))
  closes (in_declaration s w n a ∷ k) h = (by_semicolon, λ i e. declarations k h (suc i) s (declaration s i w n a e))
  closes (in_if_test s bs a ∷ k) h = (by_paren, λ i e. bodies (in_if s bs a e ∷ k) (λ j b. branched k h j s _) (suc i))
  closes (in_loop_test s ∷ k) h = (by_paren, λ i e. bodies (in_loop s e ∷ k) (λ j b. stmts k h j _) (suc i))
  closes (in_default a is ∷ k) h = (by_semicolon, λ i e. items k h (suc i) _)
  closes k h = absurd h

  pub simples : (k : Stack) → Takes simple_hole k → (i : ℕ) (y : Simple) → Goes (suc i) (end_simple i k y)
  simples (in_block s ss ∷ k) h i y = statements k (blocks k h) (suc i) s _
  simples (in_item a w is ∷ k) h i y = items k h (suc i) _
  simples (in_if s bs a e ∷ k) h i y = branched k h (suc i) s _
  simples (in_else s bs ∷ k) h i y = stmts k h (suc i) _
  simples (in_loop s e ∷ k) h i y = stmts k h (suc i) _
  simples k h i y = absurd h

  pub stmts : (k : Stack) → Takes statement_hole k → (i : ℕ) (y : Stmt) → Goes i (give_stmt k y)
  stmts (in_block s ss ∷ k) h i y = statements k (blocks k h) i s (more_stmt ss y)
  stmts k h i y = absurd h

  pub branched : (k : Stack) → Takes statement_hole k → (i s : ℕ) (bs : Branches) → Completes i k (after_branch s bs)
  branched (in_block z ss ∷ k) h i s bs = by_token i (in_block z ss ∷ k) (after_branch s bs) (Punct CloseBrace) (blocks k h (suc i) _)
  branched k h i s bs = absurd h

  pub blocks : (k : Stack) → Takes block_hole k → TakesBlock k
  blocks (in_function is_value s n g ∷ k) h i b = value_functions k h (closes k h) i (function s i n g b)
  blocks (in_function is_statement s n g ∷ k) h i b = named_functions k h i (function s i n g b)
  blocks (in_function is_default s n g ∷ k) h i b = default_functions k h i (function s i n g b)
  blocks (in_body g ∷ k) h i b = settles k (closes k h) i _
  blocks (in_block s ss ∷ k) h i b = statements k (blocks k h) i s _
  blocks (in_if s bs a e ∷ k) h i b = branched k h i s _
  blocks (in_else s bs ∷ k) h i b = stmts k h i _
  blocks (in_loop s e ∷ k) h i b = stmts k h i _
  blocks k h i b = absurd h

  pub named_functions : (k : Stack) → Takes named_hole k → TakesFunction is_statement k
  named_functions (in_block s ss ∷ k) h i f = statements k (blocks k h) i s _
  named_functions (in_item a w is ∷ k) h i f = items k h i _
  named_functions k h i f = absurd h

  pub declarations : (k : Stack) → Takes named_hole k → (i s : ℕ) (d : Declaration) → Goes i (give_declaration i k s d)
  declarations (in_block s ss ∷ k) h i a d = statements k (blocks k h) i s _
  declarations (in_item a w is ∷ k) h i s d = items k h i _
  declarations k h i s d = absurd h
