-- A function's contract, from its signature and the clauses that stand with it.
use seplogic.Ra.Ura.{Ura}
use types.Logic.{Logic}
use denote.Triple.Clauses.{Clauses, Ended, closing}
use denote.Triple.Spec.{triple_of}
use denote.Triple.Statement.{Contract}

abbrev pub contract : {M : Type 1} {𝓤 : Ura M} (𝓛 : Logic 𝓤) (F : Ended) → Clauses 𝓤 F → Contract 𝓤
contract 𝓛 F c = triple_of 𝓛 F.signature (closing 𝓛 F c)
