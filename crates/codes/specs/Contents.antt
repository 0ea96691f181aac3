-- The contents of the cells: the code in one, and what they are after a store.
use Rattle.std.specs.Prelude.{replicate, slice_index_or, slice_set}
use Rattle.std.proofs.Common.{◌∙◌, length-set}
use Rattle.std.proofs.lemmas.List.{length-replicate}
use Rattle.codes.specs.declared.bounds.Code.{Code}
use Rattle.codes.specs.Bounds.{Cell}
use Rattle.codes.specs.declared.cells.Cells.{Cells}
use Rattle.codes.specs.Codes.{nought}

-- every cell at 0
abbrev pub blank : Cells
blank = record { codes = replicate 64 nought; full = length-replicate 64 nought }

abbrev pub code_in : Cells → Cell → Code
code_in cs k = slice_index_or cs.codes k.number nought

-- shut to the prover's search, which then sees a store as one thing
unfoldable pub written : Cells → Cell → Code → Cells
written cs k p = record { codes = slice_set cs.codes k.number p; full = length-set cs.codes k.number p ∙ cs.full }
