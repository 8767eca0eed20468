pub mod SameContracts
