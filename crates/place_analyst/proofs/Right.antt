-- The signatures that agree where a module reaches have the same table there.
use Rattle.errors_by_reach.specs.Law.{whole, broken}
use Rattle.errors_by_reach.proofs.Tables.{agree_back, same_table}
use Rattle.place_analyst.specs.Law.{TypesAreRight}

pub types_right : TypesAreRight
types_right path deps (whole m spans) sigs told at answer agree (table, is, has) =
    (table, same_table told sigs table deps (agree_back sigs told deps agree) is, has)
types_right path deps (broken code place) sigs told at answer agree none = none
