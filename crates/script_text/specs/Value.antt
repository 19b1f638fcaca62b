use Rattle.shred_table.specs.declared.id.Kind.{Kind}
use Rattle.script_text.specs.declared.value.Value.{Value}

-- every value is of the one kind
abbrev pub value_kind : Value → Kind
value_kind value = record { 0 = 0 }
