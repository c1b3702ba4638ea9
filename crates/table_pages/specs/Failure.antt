-- How the failure of a store over files in memory is returned.
use Rattle.sqlite_trees.specs.declared.error.StoreError.{StoreError}
use Rattle.sqlite_trees.specs.declared.error.StoreError.TheVariants.{OutOfMemory, Io, Full}

-- a file in memory fails only if it gets no memory
abbrev pub in_memory : StoreError → StoreError
in_memory Io = OutOfMemory
in_memory Full = OutOfMemory
in_memory e = e
