-- The values of a sheet as an instance.
-- Assumes nothing.
use Rattle.sigma.specs.Instance.{Instance, instance_with}
use Rattle.instance.specs.declared.sheet.Sheet.{Sheet}

-- the instance that a sheet's values make up
abbrev pub values_of : Sheet → Instance
values_of sheet = instance_with sheet.header sheet.entries sheet.statement
