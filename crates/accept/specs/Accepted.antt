-- An accepted table in code is the table of its fleet.
use Rattle.table.specs.Tables.{Table}
use Rattle.table.specs.Fleets.{table_in}
use Rattle.accept.specs.declared.prepared.Accepted.{Accepted}

abbrev pub accepted_table : Accepted → Table
accepted_table a = table_in a.fleet
