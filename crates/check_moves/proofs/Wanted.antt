-- What is below the type that it is read against is noted nowhere.
use Rattle.std.proofs.Common.{◌≡◌, ℕ, true, Some, None, refl, sym, ap}
use Rattle.typing.specs.States.{World, Want, Notes, Out, asked, against}
use Rattle.check_moves.specs.Moves.{is_met}

pub met_stays : (w : World) (first end : ℕ) (want : Want) (o : Out) → is_met w want o.ty ≡ true → o ≡ against w first end want o
met_stays w first end None o met = refl
met_stays w first end (Some want) o met =
    let stays : asked w first end want o.ty o.notes ≡ o.notes = rw met refl in ap (λ (notes : Notes). record o { notes = notes }) (sym stays)
