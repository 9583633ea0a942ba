-- The kind of the definitions that a kind of the code is.
use Rattle.rfc3550.specs.Read.{Kind as ReadKind, SR, RR, SDES, BYE, APP, UNKNOWN}
use Rattle.compound.specs.declared.kind.Kind.{Kind}
use Rattle.compound.specs.declared.kind.Kind.TheVariants as kind

abbrev pub kind_in : Kind → ReadKind
kind_in kind.Sr = SR
kind_in kind.Rr = RR
kind_in kind.Sdes = SDES
kind_in kind.Bye = BYE
kind_in kind.App = APP
kind_in kind.Unknown = UNKNOWN
