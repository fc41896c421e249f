-- A word with which a statement begins is what its class says.
use Rattle.std.proofs.Common.{◌≡◌, refl, Bool, true, false, codes, if◌then◌else◌}
use Rattle.std.specs.Str.{bytes_eq}
use Rattle.std.proofs.lemmas.Slice.Eq.{bytes_eq-Decides}
use Rattle.js_token.specs.Words.{is_reserved}
use Rattle.js_grammar.specs.Words.{Bytes}
use Rattle.js_grammar.specs.Code.{const, let_word}
use Rattle.js_grammar.specs.CodeSpelling.{binder_word}
use Rattle.code_law.specs.Statements.{StatementWord, binds, begins_function, if_word, else_word, while_word, return_word, throw_word, break_word, continue_word, begins_import, begins_export, plain_word, reserved_statement, statement_word}

abbrev pub IsStatement : StatementWord → Bytes → Type 0
IsStatement (binds w) n = n ≡ binder_word w
IsStatement begins_function n = n ≡ codes "function"
IsStatement if_word n = n ≡ codes "if"
IsStatement else_word n = n ≡ codes "else"
IsStatement while_word n = n ≡ codes "while"
IsStatement return_word n = n ≡ codes "return"
IsStatement throw_word n = n ≡ codes "throw"
IsStatement break_word n = n ≡ codes "break"
IsStatement continue_word n = n ≡ codes "continue"
IsStatement begins_import n = n ≡ codes "import"
IsStatement begins_export n = n ≡ codes "export"
IsStatement plain_word n = Unit {0}

pick : (x y : StatementWord) (b : Bool) (n : Bytes) → (b ≡ true → IsStatement x n) → IsStatement y n → IsStatement (if b then x else y) n
pick x y true n f g = f refl
pick x y false n f g = g

pub statement_is : (n : Bytes) → IsStatement (statement_word n) n
statement_is n =
    pick (reserved_statement n) plain_word (is_reserved n) n (λ r.
    (pick (binds const) _ (bytes_eq n (codes "const")) n (λ e. is (codes "const") e)
    (pick (binds let_word) _ (bytes_eq n (codes "let")) n (λ e. is (codes "let") e)
    (pick begins_function _ (bytes_eq n (codes "function")) n (λ e. is (codes "function") e)
    (pick if_word _ (bytes_eq n (codes "if")) n (λ e. is (codes "if") e)
    (pick else_word _ (bytes_eq n (codes "else")) n (λ e. is (codes "else") e)
    (pick while_word _ (bytes_eq n (codes "while")) n (λ e. is (codes "while") e)
    (pick return_word _ (bytes_eq n (codes "return")) n (λ e. is (codes "return") e)
    (pick throw_word _ (bytes_eq n (codes "throw")) n (λ e. is (codes "throw") e)
    (pick break_word _ (bytes_eq n (codes "break")) n (λ e. is (codes "break") e)
    (pick continue_word _ (bytes_eq n (codes "continue")) n (λ e. is (codes "continue") e)
    (pick begins_import _ (bytes_eq n (codes "import")) n (λ e. is (codes "import") e)
    (pick begins_export plain_word (bytes_eq n (codes "export")) n (λ e. is (codes "export") e) tt))))))))))))) tt
  where
    is : (w : Bytes) → bytes_eq n w ≡ true → n ≡ w
    is w e = (bytes_eq-Decides n w).0 e
