mod NamesDiffer
mod SidesMade
mod Instances
