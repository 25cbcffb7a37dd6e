mod Order
mod Predefined
