-- A fleet's table in code is the table of its parts.
use Rattle.table.specs.declared.fleets.Fleet.{Fleet}
use Rattle.table.specs.Tables.{Table, table}

abbrev pub table_in : Fleet → Table
table_in f = table f.sizes f.kinds.now f.operands.now
