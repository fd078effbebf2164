mod Looped
mod Crossed
