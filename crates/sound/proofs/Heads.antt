-- What every question passes by value, as the laws of walks have it: a head.
use Rattle.paper.specs.contracts.Head as H
use Rattle.paper.proofs.Head.TheLaws as H'
use Rattle.walks.proofs.Values.{Value, struct}

abbrev pub head : Value
head = struct H.the_type H'.the_laws H'.the_plain H'.the_copy
