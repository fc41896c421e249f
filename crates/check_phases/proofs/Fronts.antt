-- What the sources say, one after the other.
use Rattle.std.proofs.Common.{◌≡◌, ℕ, ◌+◌, ◌<◌, List, [], ◌∷◌, ◌++◌, length, take, get_or, sym, subst}
use Rattle.std.specs.List.{AllZip}
use Rattle.heap_core.proofs.Lists.{get_index}
use Rattle.flow_base.specs.Program.{Bytes}
use Rattle.check_values.specs.declared.root.RootRow.{RootRow}
use Rattle.check_values.specs.declared.root.Root.{Root}
use Rattle.analyst.specs.source_front.specs.Front.{IsParse}
use Rattle.analyst.specs.source_front.specs.declared.parse.Parse.{Parse}
use Rattle.payloads.specs.State.{program_of}
use Rattle.check_phases.specs.Phases.{AreParsed}
use Rattle.check_phases.proofs.Lists.{zip_more, zip_whole, zip_mapped}

-- of each module
abbrev pub SayTheirs : List RootRow → List Parse → Type 0
SayTheirs ms parses = AllZip (λ m parse. IsParse m.text parse) ms parses

pub more_parses : (ms : List RootRow) (i : ℕ) (m : RootRow) (parse : Parse) (old new : List Parse) → i < length ms → m ≡ get_or ms i m → SayTheirs (take i ms) old → IsParse m.text parse → new ≡ old ++ parse ∷ []
    → SayTheirs (take (i + 1) ms) new
more_parses ms i m parse old new low is so_far here pushed =
    subst (λ (l : List Parse). SayTheirs (take (i + 1) ms) l) (sym pushed) (zip_more (λ (r : RootRow) (p : Parse). IsParse r.text p) ms old i m parse so_far (get_index ms i m low is) here)

pub all_parses : (root : Root) (ms : List RootRow) (i : ℕ) (parses : List Parse) → ms ≡ root.modules → i ≡ length ms → SayTheirs (take i ms) parses → AreParsed (program_of root) parses
all_parses root ms i parses same all so_far =
    let whole : SayTheirs ms parses = zip_whole (λ (r : RootRow) (p : Parse). IsParse r.text p) ms parses (subst (λ (n : ℕ). SayTheirs (take n ms) parses) all so_far) in
    zip_mapped (λ (r : RootRow). (r.path, r.text)) (λ (m : Bytes × Bytes) (p : Parse). IsParse m.1 p) root.modules parses (subst (λ (l : List RootRow). SayTheirs l parses) same whole)
